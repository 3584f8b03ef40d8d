-- The lines of a tree, one node at a time.
use Rattle.std.proofs.Common.{◌≡◌, ◌<◌, ℕ, suc, List, [], ◌∷◌, ◌++◌, length, map, reverse, Bor, refl, ap, ap₂, sym, subst, ◌∙◌, append_assoc}
use Rattle.std.proofs.lemmas.List.{length-map, length-reverse, map-append, reverse-append}
use Rattle.std.specs.Prelude.{◌==◌, true, false}
use Rattle.lalrpop_base.specs.Words.{Tree, Leaf, Node, Trees, beside}
use Rattle.lalrpop_grammar.specs.declared.repr.NonterminalString.{NonterminalString}
use Rattle.lalrpop_parser.specs.Words.{forest_of, tree_of}
use Rattle.lalrpop_parser.specs.declared.interpret.tree.ParseTree.{ParseTree}
use Rattle.parse_pictures.specs.TreeLines.{empty_mark, lines_left, root_line, rows_of, tree_lines}
use Rattle.parse_pictures.specs.TreeNodes.{trees_under, turns_left}
use Rattle.parse_pictures.proofs.TreeNodes.{turns_fewer}

-- the lines of trees: that of the first root, those under it, and those of the other trees
pub lines_first : (depth : ℕ) (t : Tree) (ts : Trees) → tree_lines depth (beside t ts) ≡ root_line depth t ++ (tree_lines (suc depth) (trees_under t) ++ tree_lines depth ts)
lines_first depth (Leaf x) ts = refl
lines_first depth (Node a children) ts = refl

-- the lines stay if that of the first root is written and its children are a list of their own
pub lines_step : (t : Tree) (ts : Trees) (outer : List Trees) → root_line (length outer) t ++ lines_left (trees_under t ∷ (ts ∷ outer)) ≡ lines_left (beside t ts ∷ outer)
lines_step t ts outer =
    let r = root_line (length outer) t in
    let u = tree_lines (suc (length outer)) (trees_under t) in
    let s = tree_lines (length outer) ts in
    let o = lines_left outer in
    ap (λ l. r ++ l) (sym (append_assoc u s o)) ∙ sym (append_assoc r (u ++ s) o) ∙ ap (λ l. l ++ o) (sym (lines_first (length outer) t ts))

-- trees that are pushed are the first row
pub rows_pushed : (old new : List (Bor (List ParseTree))) (x : Bor (List ParseTree)) → new ≡ old ++ x ∷ [] → rows_of new ≡ forest_of x.now ∷ rows_of old
rows_pushed old new x pushed =
    let f = λ (trees : Bor (List ParseTree)). forest_of trees.now in
    ap rows_of pushed ∙ ap (λ l. reverse l) (map-append f old (x ∷ [])) ∙ reverse-append (map f old) (forest_of x.now ∷ [])

-- there are as many rows as lists on the stack
pub length-rows : (stack : List (Bor (List ParseTree))) → length (rows_of stack) ≡ length stack
length-rows stack =
    let f = λ (trees : Bor (List ParseTree)). forest_of trees.now in
    length-reverse (map f stack) ∙ length-map stack f

-- the rows after the other trees and the children of the first one are pushed
pub rows_next : (old middle new : List (Bor (List ParseTree))) (rest under : Bor (List ParseTree)) (t : Tree) → middle ≡ old ++ rest ∷ [] → new ≡ middle ++ under ∷ [] → forest_of under.now ≡ trees_under t →
    rows_of new ≡ trees_under t ∷ (forest_of rest.now ∷ rows_of old)
rows_next old middle new rest under t first second children =
    rows_pushed middle new under second ∙ ap₂ (λ x l. x ∷ l) children (rows_pushed old middle rest first)

-- a turn writes the line of the first root
pub turn_lines : (before after : List ℕ) (old new : List (Bor (List ParseTree))) (here rest : Bor (List ParseTree)) (tree : ParseTree) (depth : ℕ) →
    after ≡ before ++ root_line depth (tree_of tree) → depth ≡ length old → here.now ≡ tree ∷ rest.now → rows_of new ≡ trees_under (tree_of tree) ∷ (forest_of rest.now ∷ rows_of old) →
    after ++ lines_left (rows_of new) ≡ before ++ lines_left (forest_of here.now ∷ rows_of old)
turn_lines before after old new here rest tree depth wrote deep split rows =
    let t = tree_of tree in
    let left = lines_left (trees_under t ∷ (forest_of rest.now ∷ rows_of old)) in
    ap₂ (λ l r. l ++ lines_left r) wrote rows
    ∙ append_assoc before (root_line depth t) left
    ∙ ap (λ n. before ++ (root_line n t ++ left)) (deep ∙ sym (length-rows old))
    ∙ ap (λ l. before ++ l) (lines_step t (forest_of rest.now) (rows_of old))
    ∙ ap (λ l. before ++ lines_left (forest_of l ∷ rows_of old)) (sym split)

-- after a turn fewer are left
pub turn_fewer : (old new : List (Bor (List ParseTree))) (here rest : Bor (List ParseTree)) (tree : ParseTree) →
    here.now ≡ tree ∷ rest.now → rows_of new ≡ trees_under (tree_of tree) ∷ (forest_of rest.now ∷ rows_of old) →
    turns_left (rows_of new) < turns_left (forest_of here.now ∷ rows_of old)
turn_fewer old new here rest tree split rows =
    subst (λ l. turns_left l < turns_left (forest_of here.now ∷ rows_of old)) (sym rows)
    (subst (λ l. turns_left (trees_under (tree_of tree) ∷ (forest_of rest.now ∷ rows_of old)) < turns_left (forest_of l ∷ rows_of old)) (sym split)
    (turns_fewer (tree_of tree) (forest_of rest.now) (rows_of old)))

-- at the end of a list nothing is written
pub end_lines : (here : Bor (List ParseTree)) (outer : List Trees) → here.now ≡ [] → lines_left outer ≡ lines_left (forest_of here.now ∷ outer)
end_lines here outer ended = ap (λ l. lines_left (forest_of l ∷ outer)) (sym ended)

-- a nonterminal with children is not marked
pub mark_some : (a : NonterminalString) (xs : List ParseTree) → (length xs == 0) ≡ false → [] ≡ empty_mark (Node a (forest_of xs))
mark_some a [] some = let h : true ≡ false = some in cc
mark_some a (x ∷ xs) some = refl

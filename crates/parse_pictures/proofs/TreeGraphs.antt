-- The lines of the graph of a tree, one node at a time.
use Rattle.std.proofs.Common.{◌≡◌, ◌<◌, ◌≤◌, ◌+◌, ℕ, suc, List, [], ◌∷◌, ◌++◌, codes, length, map, reverse, Bor, refl, ap, ap₂, sym, subst, ◌∙◌, append_assoc, arith}
use Rattle.std.specs.Fmt.{decimal}
use Rattle.std.proofs.lemmas.List.{length-append, map-append, reverse-append}
use Rattle.lalrpop_base.specs.Words.{Tree, Leaf, Node, Trees, beside, nodes}
use Rattle.lalrpop_parser.specs.Words.{forest_of, tree_of}
use Rattle.lalrpop_parser.specs.declared.interpret.tree.ParseTree.{ParseTree}
use Rattle.parse_pictures.specs.TreeGraphs.{edge_statement, node_statement, parented_rows, row_of, statements_left, statements_under, trees_in}
use Rattle.parse_pictures.specs.TreeNodes.{trees_under, turns_left}
use Rattle.parse_pictures.specs.declared.graph.Row.{Row}
use Rattle.parse_pictures.proofs.TreeNodes.{nodes_first, turns_fewer}

-- the lines of trees: those of the first root, those under it, and those of the other trees
pub statements_first : (parent number : ℕ) (t : Tree) (ts : Trees) → statements_under parent number (beside t ts) ≡
    node_statement number t ++ (edge_statement parent number ++ (statements_under number (suc number) (trees_under t) ++ statements_under parent (suc (number + nodes (trees_under t))) ts))
statements_first parent number (Leaf x) ts =
    let same : suc number ≡ suc (number + 0) = omega arith in
    ap (λ n. node_statement number (Leaf x) ++ (edge_statement parent number ++ statements_under parent n ts)) same
statements_first parent number (Node a children) ts = refl

-- the lines stay if those of the first root are written and its children are a row of their own
pub statements_step : (parent number : ℕ) (t : Tree) (ts : Trees) (outer : List (ℕ × Trees)) →
    node_statement number t ++ (edge_statement parent number ++ statements_left (suc number) ((number, trees_under t) ∷ ((parent, ts) ∷ outer))) ≡ statements_left number ((parent, beside t ts) ∷ outer)
statements_step parent number t ts outer =
    let n = node_statement number t in
    let e = edge_statement parent number in
    let u = statements_under number (suc number) (trees_under t) in
    let s = statements_under parent (suc (number + nodes (trees_under t))) ts in
    let o = statements_left (number + nodes (beside t ts)) outer in
    let split : nodes (beside t ts) ≡ suc (nodes (trees_under t) + nodes ts) = nodes_first t ts in
    let next : suc number + nodes (trees_under t) ≡ suc (number + nodes (trees_under t)) = omega arith in
    let last : (suc number + nodes (trees_under t)) + nodes ts ≡ number + nodes (beside t ts) = omega (arith, split) in
    ap₂ (λ i j. n ++ (e ++ (u ++ (statements_under parent i ts ++ statements_left j outer)))) next last
    ∙ ap (λ l. n ++ (e ++ l)) (sym (append_assoc u s o))
    ∙ ap (λ l. n ++ l) (sym (append_assoc e (u ++ s) o))
    ∙ sym (append_assoc n (e ++ (u ++ s)) o)
    ∙ ap (λ l. l ++ o) (sym (statements_first parent number t ts))

-- a row that is pushed is the first one
pub parented_pushed : (old new : List Row) (x : Row) → new ≡ old ++ x ∷ [] → parented_rows new ≡ row_of x ∷ parented_rows old
parented_pushed old new x pushed =
    ap parented_rows pushed ∙ ap (λ l. reverse l) (map-append row_of old (x ∷ [])) ∙ reverse-append (map row_of old) (row_of x ∷ [])

-- the rows after the other trees and the children of the first one are pushed
pub parented_next : (old middle new : List Row) (rest under : Row) (parent number : ℕ) (ts : Trees) (t : Tree) → middle ≡ old ++ rest ∷ [] → new ≡ middle ++ under ∷ [] →
    row_of rest ≡ (parent, ts) → row_of under ≡ (number, trees_under t) → parented_rows new ≡ (number, trees_under t) ∷ ((parent, ts) ∷ parented_rows old)
parented_next old middle new rest under parent number ts t first second others children =
    parented_pushed middle new under second ∙ ap₂ (λ x l. x ∷ l) children (parented_pushed old middle rest first ∙ ap (λ x. x ∷ parented_rows old) others)

-- a turn writes the lines of the first root
pub turn_statements : (before middle after : List ℕ) (old new : List Row) (row : Row) (rest : Bor (List ParseTree)) (tree : ParseTree) (number : ℕ) →
    middle ≡ before ++ node_statement number (tree_of tree) → after ≡ middle ++ edge_statement row.parent number → row.trees.now ≡ tree ∷ rest.now →
    parented_rows new ≡ (number, trees_under (tree_of tree)) ∷ ((row.parent, forest_of rest.now) ∷ parented_rows old) →
    after ++ statements_left (suc number) (parented_rows new) ≡ before ++ statements_left number (row_of row ∷ parented_rows old)
turn_statements before middle after old new row rest tree number node edge split rows =
    let t = tree_of tree in
    let n = node_statement number t in
    let e = edge_statement row.parent number in
    let left = statements_left (suc number) ((number, trees_under t) ∷ ((row.parent, forest_of rest.now) ∷ parented_rows old)) in
    ap₂ (λ l r. l ++ statements_left (suc number) r) (edge ∙ ap (λ l. l ++ e) node) rows
    ∙ append_assoc (before ++ n) e left
    ∙ append_assoc before n (e ++ left)
    ∙ ap (λ l. before ++ l) (statements_step row.parent number t (forest_of rest.now) (parented_rows old))
    ∙ ap (λ l. before ++ statements_left number ((row.parent, forest_of l) ∷ parented_rows old)) (sym split)

-- after a turn fewer are left
pub turn_statements_fewer : (old new : List Row) (row : Row) (rest : Bor (List ParseTree)) (tree : ParseTree) (number : ℕ) → row.trees.now ≡ tree ∷ rest.now →
    parented_rows new ≡ (number, trees_under (tree_of tree)) ∷ ((row.parent, forest_of rest.now) ∷ parented_rows old) →
    turns_left (trees_in (parented_rows new)) < turns_left (trees_in (row_of row ∷ parented_rows old))
turn_statements_fewer old new row rest tree number split rows =
    let outer = trees_in (parented_rows old) in
    subst (λ l. turns_left (trees_in l) < turns_left (trees_in (row_of row ∷ parented_rows old))) (sym rows)
    (subst (λ l. turns_left (trees_under (tree_of tree) ∷ (forest_of rest.now ∷ outer)) < turns_left (forest_of l ∷ outer)) (sym split)
    (turns_fewer (tree_of tree) (forest_of rest.now) outer))

-- a turn writes more than one byte
pub turn_longer : (before middle after : List ℕ) (parent number : ℕ) (t : Tree) → middle ≡ before ++ node_statement number t → after ≡ middle ++ edge_statement parent number → number ≤ length before → number < length after
turn_longer before middle after parent number t node edge short =
    let first : length middle ≡ length before + length (node_statement number t) = ap length node ∙ length-append before (node_statement number t) in
    let second : length after ≡ length middle + length (edge_statement parent number) = ap length edge ∙ length-append middle (edge_statement parent number) in
    let rest = decimal parent ++ (codes " -> " ++ (decimal number ++ codes ";\n")) in
    let some : length (edge_statement parent number) ≡ length (codes "  ") + length rest = length-append (codes "  ") rest in
    let two : length (codes "  ") ≡ 2 = refl in
    omega (arith, first, second, some, two)

-- at the end of a row nothing is written
pub end_statements : (number : ℕ) (row : Row) (outer : List (ℕ × Trees)) → row.trees.now ≡ [] → statements_left number outer ≡ statements_left number (row_of row ∷ outer)
end_statements number row outer ended =
    let same : number ≡ number + 0 = omega arith in
    ap (λ n. statements_left n outer) same ∙ ap (λ l. statements_left number ((row.parent, forest_of l) ∷ outer)) (sym ended)

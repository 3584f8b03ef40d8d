-- Steps over trees: how a walk makes them, and the tree and the text that they make.
use Rattle.std.proofs.Common.{◌≡◌, ◌↔◌, ℕ, Bool, true, false, List, [], ◌∷◌, ◌++◌, codes, refl, ap, sym, ◌∙◌, append-nil, append_assoc}
use Rattle.lalrpop_ambiguity.specs.Words.{Tree, Leaf, Node, Trees, no_trees, beside, trees_of}
use Rattle.lalrpop_grammar.specs.grammars.Names.{nonterminal_text, symbol_text}
use Rattle.lalrpop_ambiguity.proofs.Types.{Production, Symbol}
use Rattle.lalrpop_ambiguity.specs.Words.{Step, enters, meets_leaf, leaves_node, steps_over, steps_left, steps_text, tree_by, trees_text, separator_text}
use Rattle.lalrpop_ambiguity.proofs.theory.derivations.Views.{listed, listed-trees, trees-listed, children_of}

-- ---- the next step
-- the step to a leaf
pub meets_first : (x : Symbol) (here : Trees) (around : List Trees) → steps_left (beside (Leaf x) here) around ≡ meets_leaf x ∷ steps_left here around
meets_first x here [] = refl
meets_first x here (r ∷ outer) = refl

-- the step into a node
pub enters_first : (p : Production) (children here : Trees) (around : List Trees) → steps_left (beside (Node p children) here) around ≡ enters p ∷ steps_left children (here ∷ around)
enters_first p children here [] = refl
enters_first p children here (r ∷ outer) = ap (λ l. enters p ∷ l) (append_assoc (steps_over children) (leaves_node ∷ steps_over here) (leaves_node ∷ steps_left r outer))

-- ---- the tree that steps make
-- the trees of a list are made after those that were there
pub made_over : (ts : Trees) (p : Production) (made : List Tree) (around : List (Production × List Tree)) (steps : List Step) → tree_by p made around (steps_over ts ++ steps) ≡ tree_by p (made ++ listed ts) around steps
made_over no_trees p made around steps = ap (λ l. tree_by p l around steps) (sym (append-nil made))
made_over (beside (Leaf x) ts) p made around steps =
    made_over ts p (made ++ Leaf x ∷ []) around steps
    ∙ ap (λ l. tree_by p l around steps) (append_assoc made (Leaf x ∷ []) (listed ts))
made_over (beside (Node q children) ts) p made around steps =
    ap (λ l. tree_by q [] ((p, made) ∷ around) l) (append_assoc (steps_over children) (leaves_node ∷ steps_over ts) steps)
    ∙ made_over children q [] ((p, made) ∷ around) (leaves_node ∷ (steps_over ts ++ steps))
    ∙ ap (λ l. tree_by p (made ++ Node q l ∷ []) around (steps_over ts ++ steps)) (trees-listed children)
    ∙ made_over ts p (made ++ Node q children ∷ []) around steps
    ∙ ap (λ l. tree_by p l around steps) (append_assoc made (Node q children ∷ []) (listed ts))

-- so the steps over the children of a node make the node
pub made_whole : (ts : Trees) (p : Production) → tree_by p [] [] (steps_over ts) ≡ Node p ts
made_whole ts p =
    ap (λ l. tree_by p [] [] l) (sym (append-nil (steps_over ts)))
    ∙ made_over ts p [] [] []
    ∙ ap (λ l. Node p l) (trees-listed ts)

-- trees with the same steps are the same
pub same_trees : (ts us : Trees) (p : Production) → steps_over ts ≡ steps_over us → ts ≡ us
same_trees ts us p same = ap children_of (sym (made_whole ts p) ∙ ap (λ l. tree_by p [] [] l) same ∙ made_whole us p)

-- lists of trees have the same steps exactly if they are the same
pub same_steps : (ts us : List Tree) → (steps_over (trees_of ts) ≡ steps_over (trees_of us)) ↔ (ts ≡ us)
same_steps ts us = (
  λ h. sym (listed-trees ts) ∙ ap listed (same_trees (trees_of ts) (trees_of us) (record { nonterminal = record { text = [] }; symbols = []; action = record { 0 = 0 }; span = record { 0 = 0; 1 = 0 } }) h) ∙ listed-trees us,
  λ h. ap (λ (l : List Tree). steps_over (trees_of l)) h,
)

-- ---- the text that steps write
-- whether a tree that comes after some trees is the first one
abbrev pub is_first_behind : Bool → Trees → Bool
is_first_behind is_first no_trees = is_first
is_first_behind is_first (beside t ts) = false

others_follow : (ts : Trees) → is_first_behind false ts ≡ false
others_follow no_trees = refl
others_follow (beside t ts) = refl

-- four texts in a row, and one more after them
in_a_row : (s b n c r : List ℕ) → (s ++ (b ++ (n ++ c))) ++ r ≡ s ++ (b ++ (n ++ (c ++ r)))
in_a_row s b n c r =
    append_assoc s (b ++ (n ++ c)) r
    ∙ ap (λ l. s ++ l) (append_assoc b (n ++ c) r)
    ∙ ap (λ l. s ++ (b ++ l)) (append_assoc n c r)

three_in_a_row : (m e t r : List ℕ) → (m ++ (e ++ t)) ++ r ≡ m ++ (e ++ (t ++ r))
three_in_a_row m e t r = append_assoc m (e ++ t) r ∙ ap (λ l. m ++ l) (append_assoc e t r)

-- the steps over trees write the text of these, and then the other steps go on
pub written_over : (ts : Trees) (is_first : Bool) (steps : List Step) → steps_text is_first (steps_over ts ++ steps) ≡ trees_text is_first ts ++ steps_text (is_first_behind is_first ts) steps
written_over no_trees is_first steps = refl
written_over (beside (Leaf x) ts) is_first steps =
    let s = separator_text is_first in
    let n = symbol_text x in
    ap (λ l. (s ++ n) ++ l) (written_over ts false steps ∙ ap (λ b. trees_text false ts ++ steps_text b steps) (others_follow ts))
    ∙ append_assoc s n (trees_text false ts ++ steps_text false steps)
    ∙ sym (three_in_a_row s n (trees_text false ts) (steps_text false steps))
written_over (beside (Node p children) ts) is_first steps =
    let s = separator_text is_first in
    let b = codes "[" in
    let n = nonterminal_text p.nonterminal in
    let c = codes ": " in
    let m = trees_text true children in
    let e = codes "]" in
    let t = trees_text false ts in
    let r = steps_text false steps in
    let inner : steps_text true ((steps_over children ++ (leaves_node ∷ steps_over ts)) ++ steps) ≡ m ++ (e ++ (t ++ r)) =
    ap (steps_text true) (append_assoc (steps_over children) (leaves_node ∷ steps_over ts) steps)
    ∙ written_over children true (leaves_node ∷ (steps_over ts ++ steps))
    ∙ ap (λ l. m ++ (e ++ l)) (written_over ts false steps ∙ ap (λ x. t ++ steps_text x steps) (others_follow ts)) in
    ap (λ l. (s ++ (b ++ (n ++ c))) ++ l) inner
    ∙ in_a_row s b n c (m ++ (e ++ (t ++ r)))
    ∙ ap (λ l. s ++ (b ++ (n ++ (c ++ l)))) (sym (three_in_a_row m e t r))
    ∙ ap (λ l. s ++ (b ++ (n ++ l))) (sym (append_assoc c (m ++ (e ++ t)) r))
    ∙ sym (in_a_row s b n (c ++ (m ++ (e ++ t))) r)

-- the steps over the children of a node write their text
pub written_whole : (ts : Trees) → steps_text true (steps_over ts) ≡ trees_text true ts
written_whole ts =
    ap (steps_text true) (sym (append-nil (steps_over ts)))
    ∙ written_over ts true []
    ∙ append-nil (trees_text true ts)

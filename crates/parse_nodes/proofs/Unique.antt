-- The nodes of trees are those of no others.
use Rattle.std.proofs.Common.{◌≡◌, ℕ, zero, suc, ◌≤◌, List, [], ◌∷◌, ◌++◌, length, length-append, append_assoc, slice_get, refl, sym, ap, ap₂, subst, ◌∙◌, arith}
use Rattle.lalrpop_base.specs.Words.{Leaf, Node, Tree, Trees, beside, no_trees, trees_of}
use Rattle.lalrpop_collections.proofs.theory.lists.Lists.{same_some}
use Rattle.lalrpop_grammar.proofs.theory.runs.Steps.{list_of, trees-list}
use Rattle.lalrpop_grammar.specs.declared.repr.Production.{Production}
use Rattle.lalrpop_grammar.specs.declared.repr.TerminalString.{TerminalString}
use Rattle.parse_nodes.specs.Nodes.{AreNodes}
use Rattle.parse_nodes.specs.declared.node.ParseNode.{ParseNode}
use Rattle.parse_nodes.proofs.Children.{HasLast, has_last, no_count}
use Rattle.parse_nodes.proofs.Rows.{root_of, row_split}
use Rattle.parse_nodes.proofs.Seen.{counted, told}

module _ {A : Type 0} where
  abbrev first_or : A → List A → A
  first_or d [] = d
  first_or d (x ∷ xs) = x

  abbrev rest_of : List A → List A
  rest_of [] = []
  rest_of (x ∷ xs) = xs

  -- equal lists of two parts have equal parts, if the first parts are of one length
  parts_are : (xs ys us vs : List A) → length xs ≡ length ys → xs ++ us ≡ ys ++ vs → (xs ≡ ys) × (us ≡ vs)
  parts_are [] [] us vs l e = (refl, e)
  parts_are [] (y ∷ ys) us vs l e = absurd (omega (arith, l))
  parts_are (x ∷ xs) [] us vs l e = absurd (omega (arith, l))
  parts_are (x ∷ xs) (y ∷ ys) us vs l e =
      let r = parts_are xs ys us vs (omega (arith, l)) (ap rest_of e) in
      (ap₂ (λ z zs. z ∷ zs) (ap (first_or x) e) r.0, r.1)

  -- so have lists with one element behind the first part
  ends_are : (xs ys : List A) (x y : A) → xs ++ x ∷ [] ≡ ys ++ y ∷ [] → (xs ≡ ys) × (x ≡ y)
  ends_are xs ys x y e =
      let whole = ap length e in
      let one = length-append xs (x ∷ []) in
      let two = length-append ys (y ∷ []) in
      let r = parts_are xs ys (x ∷ []) (y ∷ []) (omega (arith, whole, one, two)) e in
      (r.0, ap (first_or x) r.1)

module _ (terminals : List TerminalString) (productions : List Production) where
  -- a tree, whose children are those of no other trees
  same_tree : (below : List ParseNode) (root : ParseNode) (t u : Tree) (k m : ℕ) → ((ts us : List Tree) (i j : ℕ) → AreNodes terminals productions below i (trees_of ts) → AreNodes terminals productions below j (trees_of us) → ts ≡ us) → AreNodes terminals productions (below ++ root ∷ []) k (beside t no_trees) → AreNodes terminals productions (below ++ root ∷ []) m (beside u no_trees) → t ≡ u
  same_tree below root (Leaf x) (Leaf y) k m inner row other =
      let one = ends_are below [] root row.0 (row.2 ∙ ap (λ zs. row.0 ∷ zs) row.4) in
      let two = ends_are below [] root other.0 (other.2 ∙ ap (λ zs. other.0 ∷ zs) other.4) in
      let same : row.0 ≡ other.0 = sym one.1 ∙ two.1 in
      ap Leaf (same_some (sym row.3.label ∙ ap (λ (n : ParseNode). slice_get terminals n.label) same ∙ other.3.label))
  same_tree below root (Leaf x) (Node b us) k m inner row other =
      absurd ((told terminals productions below root m (Node b us) other).0 ((told terminals productions below root k (Leaf x) row).1 tt))
  same_tree below root (Node a ts) (Leaf y) k m inner row other =
      absurd ((told terminals productions below root k (Node a ts) row).0 ((told terminals productions below root m (Leaf y) other).1 tt))
  same_tree below root (Node a ts) (Node b us) k m inner row other =
      let one = ends_are below row.0 root row.1 (row.3 ∙ ap (λ zs. row.0 ++ row.1 ∷ zs) row.6) in
      let two = ends_are below other.0 root other.1 (other.3 ∙ ap (λ zs. other.0 ++ other.1 ∷ zs) other.6) in
      let same : row.1 ≡ other.1 = sym one.1 ∙ two.1 in
      let by : row.4.production ≡ other.4.production = same_some (sym row.4.label ∙ ap (λ (n : ParseNode). slice_get productions n.label) same ∙ other.4.label) in
      let name : a ≡ b = sym row.4.name ∙ ap (λ (p : Production). p.nonterminal) by ∙ other.4.name in
      let row_below = subst (λ (zs : List ParseNode). AreNodes terminals productions zs k ts) (sym one.0) row.5 in
      let other_below = subst (λ (zs : List ParseNode). AreNodes terminals productions zs m us) (sym two.0) other.5 in
      let children = inner (list_of ts) (list_of us) k m
      (subst (λ (vs : Trees). AreNodes terminals productions below k vs) (sym (trees-list ts)) row_below)
      (subst (λ (vs : Trees). AreNodes terminals productions below m vs) (sym (trees-list us)) other_below) in
      ap₂ Node name (sym (trees-list ts) ∙ ap trees_of children ∙ trees-list us)

  -- trees in a row, of which each has another as its last
  same_last : (n : ℕ) (listed : List ParseNode) (ts us : List Tree) (k m : ℕ) → ((below : List ParseNode) → length below ≤ n → (ts us : List Tree) (i j : ℕ) → AreNodes terminals productions below i (trees_of ts) → AreNodes terminals productions below j (trees_of us) → ts ≡ us) → length listed ≤ suc n → HasLast ts → HasLast us → AreNodes terminals productions listed k (trees_of ts) → AreNodes terminals productions listed m (trees_of us) → ts ≡ us
  same_last n listed ts us k m fewer l r s row other =
      let one = row_split terminals productions r.others (r.last ∷ []) listed k (subst (λ (vs : List Tree). AreNodes terminals productions listed k (trees_of vs)) r.is row) in
      let two = row_split terminals productions s.others (s.last ∷ []) listed m (subst (λ (vs : List Tree). AreNodes terminals productions listed m (trees_of vs)) s.is other) in
      let root = root_of terminals productions r.last one.back one.at one.in_back in
      let root' = root_of terminals productions s.last two.back two.at two.in_back in
      let first : listed ≡ (one.front ++ root.below) ++ root.root ∷ [] = one.is ∙ ap (λ zs. one.front ++ zs) root.is ∙ sym (append_assoc one.front root.below (root.root ∷ [])) in
      let second : listed ≡ (two.front ++ root'.below) ++ root'.root ∷ [] = two.is ∙ ap (λ zs. two.front ++ zs) root'.is ∙ sym (append_assoc two.front root'.below (root'.root ∷ [])) in
      let ends = ends_are (one.front ++ root.below) (two.front ++ root'.below) root.root root'.root (sym first ∙ second) in
      let size = root.size in
      let size' = root'.size in
      let roots = ap (λ (x : ParseNode). x.size) ends.1 in
      let both = ap length ends.0 in
      let whole = length-append one.front root.below in
      let whole' = length-append two.front root'.below in
      let all = ap length first in
      let all' = length-append (one.front ++ root.below) (root.root ∷ []) in
      let fronts : length one.front ≡ length two.front = omega (arith, size, size', roots, both, whole, whole') in
      let parts = parts_are one.front two.front root.below root'.below fronts ends.0 in
      let few : length one.front ≤ n = omega (arith, l, all, all', whole) in
      let few' : length root.below ≤ n = omega (arith, l, all, all', whole) in
      let others = fewer one.front few r.others s.others k m one.in_front (subst (λ (zs : List ParseNode). AreNodes terminals productions zs m (trees_of s.others)) (sym parts.0) two.in_front) in
      let back : two.back ≡ root.below ++ root.root ∷ [] = root'.is ∙ ap₂ (λ zs x. zs ++ x ∷ []) (sym parts.1) (sym ends.1) in
      let last = same_tree root.below root.root r.last s.last one.at two.at (fewer root.below few')
      (subst (λ (zs : List ParseNode). AreNodes terminals productions zs one.at (beside r.last no_trees)) root.is one.in_back)
      (subst (λ (zs : List ParseNode). AreNodes terminals productions zs two.at (beside s.last no_trees)) back two.in_back) in
      r.is ∙ ap₂ (λ vs x. vs ++ x ∷ []) others last ∙ sym s.is

  -- trees in a row, with at most so many nodes
  same_row : (n : ℕ) (listed : List ParseNode) → length listed ≤ n → (ts us : List Tree) (k m : ℕ) → AreNodes terminals productions listed k (trees_of ts) → AreNodes terminals productions listed m (trees_of us) → ts ≡ us
  same_row zero listed l ts us k m row other =
      let one = counted terminals productions listed k (trees_of ts) row in
      let two = counted terminals productions listed m (trees_of us) other in
      no_count ts (omega (arith, l, one)) ∙ sym (no_count us (omega (arith, l, two)))
  same_row (suc n) [] l ts us k m row other =
      let one = counted terminals productions [] k (trees_of ts) row in
      let two = counted terminals productions [] m (trees_of us) other in
      no_count ts (omega (arith, one)) ∙ sym (no_count us (omega (arith, two)))
  same_row (suc n) (x ∷ xs) l ts us k m row other =
      let one = counted terminals productions (x ∷ xs) k (trees_of ts) row in
      let two = counted terminals productions (x ∷ xs) m (trees_of us) other in
      same_last n (x ∷ xs) ts us k m (same_row n) l (has_last ts (omega (arith, one))) (has_last us (omega (arith, two))) row other

  -- trees in a row
  pub same_trees : (listed : List ParseNode) (ts us : Trees) (k m : ℕ) → AreNodes terminals productions listed k ts → AreNodes terminals productions listed m us → ts ≡ us
  same_trees listed ts us k m row other =
      let same = same_row (length listed) listed (omega arith) (list_of ts) (list_of us) k m
      (subst (λ (vs : Trees). AreNodes terminals productions listed k vs) (sym (trees-list ts)) row)
      (subst (λ (vs : Trees). AreNodes terminals productions listed m vs) (sym (trees-list us)) other) in
      sym (trees-list ts) ∙ ap trees_of same ∙ trees-list us

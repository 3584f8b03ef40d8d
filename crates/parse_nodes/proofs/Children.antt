-- Walks back over the children of a node.
use Rattle.std.proofs.Common.{◌≡◌, ℕ, suc, ◌+◌, ◌-◌, ◌<◌, ◌≤◌, List, [], ◌∷◌, ◌++◌, Some, length, length-append, append-nil, append_assoc, min, reverse, slice_get, refl, sym, ap, ap₂, subst, ◌∙◌, arith}
use Rattle.std.proofs.Math.Nat.{min-eq_right}
use Rattle.std.proofs.lemmas.List.{reverse-append, reverse-reverse}
use Rattle.lalrpop_base.specs.Words.{Leaf, Node, Tree, Trees, beside, no_trees, nodes, trees_of}
use Rattle.lalrpop_grammar.proofs.theory.runs.Steps.{list_of, trees-list}
use Rattle.lalrpop_grammar.specs.declared.repr.Production.{Production}
use Rattle.lalrpop_grammar.specs.declared.repr.TerminalString.{TerminalString}
use Rattle.parse_nodes.specs.Building.{tree_start}
use Rattle.parse_nodes.specs.Children.{AreChildren, HasTree, child_numbers, first_number, others, root_number, root_numbers}
use Rattle.parse_nodes.specs.Nodes.{AreNodes}
use Rattle.parse_nodes.specs.declared.node.ParseNode.{ParseNode}
use Rattle.parse_nodes.proofs.Rows.{root_of, row_split}
use Rattle.parse_nodes.proofs.Seen.{counted}
use Rattle.parse_nodes.proofs.Walks.{got_left, last_tree, root_at, tree_start_in}

-- how many nodes the trees of a list have
abbrev pub count : List Tree → ℕ
count ts = nodes (trees_of ts)

count_append : (ts us : List Tree) → count (ts ++ us) ≡ count ts + count us
count_append [] us = omega arith
count_append (Leaf t ∷ ts) us = let e = count_append ts us in omega (arith, e)
count_append (Node a children ∷ ts) us = let e = count_append ts us in omega (arith, e)

abbrev pub children_of : Tree → Trees
children_of (Leaf t) = no_trees
children_of (Node a children) = children

-- a root comes after the others of its tree
root_place : (first : ℕ) (t : Tree) → suc (root_number first t) ≡ first + count (t ∷ [])
root_place first (Leaf t) = omega arith
root_place first (Node a children) = omega arith

root_is : (first : ℕ) (t : Tree) → root_number first t ≡ first + nodes (children_of t)
root_is first (Leaf t) = omega arith
root_is first (Node a children) = refl

numbers_are : (first : ℕ) (t : Tree) → root_numbers first (children_of t) ≡ child_numbers first t
numbers_are first (Leaf t) = refl
numbers_are first (Node a children) = refl

-- the trees but the last, and the last
pub record HasLast (ts : List Tree) : Type 0 where
  pub others : List Tree
  pub last : Tree
  pub is : ts ≡ others ++ last ∷ []

last_of : (t : Tree) (ts : List Tree) → HasLast (t ∷ ts)
last_of t [] = record { others = []; last = t; is = refl }
last_of t (u ∷ ts) = let r = last_of u ts in record { others = t ∷ r.others; last = r.last; is = ap (λ us. t ∷ us) r.is }

-- trees with nodes have a last tree
pub has_last : (ts : List Tree) → 0 < count ts → HasLast ts
has_last [] l = absurd (omega (arith, l))
has_last (t ∷ ts) l = last_of t ts

-- the walk over the children of a tree, whose first node has a number, came to a place: the roots of
-- the trees after it are listed
pub record IsAtPlace (first : ℕ) (t : Tree) (place : ℕ) (listed : List ℕ) : Type 0 where
  pub left : List Tree
  pub done : List Tree
  pub are : children_of t ≡ trees_of (left ++ done)
  pub reached : place ≡ first + count left
  pub told : listed ≡ reverse (root_numbers place (trees_of done))

-- it begins at the root
pub begins : (first : ℕ) (t : Tree) → IsAtPlace first t (root_number first t) []
begins first t = record {
  left = list_of (children_of t);
  done = [];
  are = sym (trees-list (children_of t)) ∙ ap trees_of (sym (append-nil (list_of (children_of t))));
  reached = root_is first t ∙ ap (λ us. first + nodes us) (sym (trees-list (children_of t)));
  told = refl;
}

-- trees without nodes are none
pub no_count : (ts : List Tree) → count ts ≡ 0 → ts ≡ []
no_count [] e = refl
no_count (Leaf t ∷ ts) e = absurd (omega (arith, e))
no_count (Node a children ∷ ts) e = absurd (omega (arith, e))

-- it ends at the first node
pub ends : (first : ℕ) (t : Tree) (place : ℕ) (listed : List ℕ) → place ≤ first → IsAtPlace first t place listed → reverse listed ≡ child_numbers first t
ends first t place listed few at =
    let there = at.reached in
    let none : count at.left ≡ 0 = omega (arith, few, there) in
    let place_is : place ≡ first = omega (arith, few, there) in
    let are : children_of t ≡ trees_of at.done = at.are ∙ ap (λ us. trees_of (us ++ at.done)) (no_count at.left none) in
    ap reverse at.told
    ∙ reverse-reverse (root_numbers place (trees_of at.done))
    ∙ ap₂ root_numbers place_is (sym are)
    ∙ numbers_are first t

-- the nodes of the children, and the rest
record HasChildren (terminals : List TerminalString) (productions : List Production) (own : List ParseNode) (k : ℕ) (t : Tree) : Type 0 where
  below : List ParseNode
  rest : List ParseNode
  is : own ≡ below ++ rest
  row : AreNodes terminals productions below k (children_of t)

module _ (before front mine more rest after : List ParseNode) where
  seam : (below own listed : List ParseNode) → listed ≡ before ++ own ++ after → own ≡ below ++ rest → below ≡ front ++ (mine ++ more) → listed ≡ before ++ front ++ mine ++ (more ++ rest ++ after)
  seam below own listed whole parts inner =
      let parted : own ≡ front ++ mine ++ (more ++ rest) = parts ∙ ap (λ zs. zs ++ rest) (inner ∙ sym (append_assoc front mine more)) ∙ append_assoc (front ++ mine) more rest in
      let joined : before ++ (front ++ mine ++ (more ++ rest)) ≡ before ++ front ++ mine ++ (more ++ rest) =
      sym (append_assoc before (front ++ mine) (more ++ rest)) ∙ ap (λ zs. zs ++ (more ++ rest)) (sym (append_assoc before front mine)) in
      whole
      ∙ ap (λ zs. before ++ zs ++ after) parted
      ∙ ap (λ zs. zs ++ after) joined
      ∙ append_assoc (before ++ front ++ mine) (more ++ rest) after

module _ (terminals : List TerminalString) (productions : List Production) where
  -- the nodes of a tree have it
  pub whole_tree : (listed : List ParseNode) (k : ℕ) (t : Tree) → AreNodes terminals productions listed k (beside t no_trees) → HasTree terminals productions listed 0 t × (suc (root_number 0 t) ≡ length listed)
  whole_tree listed k t row = (
    record { before = []; own = listed; after = []; position = k; is = sym (append-nil listed); tree = row; place = refl },
    let place = root_place 0 t in let all = counted terminals productions listed k (beside t no_trees) row in omega (arith, place, all),
  )

  children_row : (t : Tree) (own : List ParseNode) (k : ℕ) → AreNodes terminals productions own k (beside t no_trees) → HasChildren terminals productions own k t
  children_row (Leaf t) own k row = record { below = []; rest = own; is = refl; row = refl }
  children_row (Node a children) own k row = record { below = row.0; rest = row.1 ∷ row.2; is = row.3; row = row.5 }

  module _ (listed : List ParseNode) (first : ℕ) (t : Tree) (has : HasTree terminals productions listed first t) where
    -- by the size of the root, the tree begins here
    pub first_is : (number : ℕ) → number ≡ root_number first t → first_number listed number ≡ first
    first_is number is =
        let r = root_of terminals productions t has.own has.position has.tree in
        let all = counted terminals productions has.own has.position (beside t no_trees) has.tree in
        let place = root_place first t in
        let start = has.place in
        let length_is = ap length r.is in
        let parts = length-append r.below (r.root ∷ []) in
        let both = length-append has.before has.own in
        let there : number ≡ length has.before + length r.below = omega (arith, is, all, place, start, length_is, parts) in
        let within : number < length (has.before ++ has.own) = omega (arith, there, both, length_is, parts) in
        let got : slice_get listed number ≡ Some r.root =
        ap (λ zs. slice_get zs number) has.is
        ∙ got_left (has.before ++ has.own) has.after number within
        ∙ ap (slice_get (has.before ++ has.own)) there
        ∙ root_at has.before has.own r in
        let size = r.size in
        let left : number - (r.root.size - 1) ≡ first = omega (arith, there, size, start) in
        ap (λ o. number - others o) got ∙ left

    -- the list has each child
    pub child_tree : (ts : List Tree) (child : Tree) (us : List Tree) → children_of t ≡ trees_of (ts ++ child ∷ us) → HasTree terminals productions listed (first + count ts) child
    child_tree ts child us are =
        let c = children_row t has.own has.position has.tree in
        let row = subst (λ (trees : Trees). AreNodes terminals productions c.below has.position trees) are c.row in
        let one = row_split terminals productions ts (child ∷ us) c.below has.position row in
        let two = row_split terminals productions (child ∷ []) us one.back one.at one.in_back in
        let outer = length-append has.before one.front in
        let inner = counted terminals productions one.front has.position (trees_of ts) one.in_front in
        let start = has.place in
        record {
          before = has.before ++ one.front;
          own = two.front;
          after = two.back ++ c.rest ++ has.after;
          position = one.at;
          is = seam has.before one.front two.front two.back c.rest has.after c.below has.own listed has.is c.is (one.is ∙ ap (λ zs. one.front ++ zs) two.is);
          tree = two.in_front;
          place = omega (arith, outer, inner, start);
        }

    -- the tree that ends before a place begins where its nodes begin
    pub start_is : (place : ℕ) → place ≡ first + count (t ∷ []) → tree_start listed place ≡ first
    start_is place there =
        let root = root_of terminals productions t has.own has.position has.tree in
        let all = counted terminals productions has.own has.position (beside t no_trees) has.tree in
        let both = length-append has.before has.own in
        let start = has.place in
        let end : place ≡ length (has.before ++ has.own) = omega (arith, there, all, both, start) in
        ap₂ tree_start has.is end
        ∙ tree_start_in (has.before ++ has.own) has.after (length (has.before ++ has.own)) (omega arith)
        ∙ last_tree has.before has.own root
        ∙ start

  -- the walk goes on by a root
  walk_by : (listed : List ParseNode) (first : ℕ) (t : Tree) → HasTree terminals productions listed first t → (place root : ℕ) (numbers : List ℕ) → place ≡ suc root → first < place → IsAtPlace first t place numbers → (next : ℕ) → next ≡ min root (tree_start listed place) → IsAtPlace first t next (numbers ++ root ∷ [])
  walk_by listed first t has place root numbers next_is l at next is =
      let there = at.reached in
      let r = has_last at.left (omega (arith, l, there)) in
      let start = first + count r.others in
      let parts = ap count r.is ∙ count_append r.others (r.last ∷ []) in
      let at_root = root_place start r.last in
      let inner = root_is start r.last in
      let place_is : place ≡ first + count r.others + count (r.last ∷ []) = omega (arith, there, parts) in
      let root_same : root_number start r.last ≡ root = omega (arith, at_root, place_is, next_is) in
      let behind_root : root_number start r.last + 1 ≡ place = omega (arith, root_same, next_is) in
      let are : children_of t ≡ trees_of (r.others ++ r.last ∷ at.done) = at.are ∙ ap (λ us. trees_of (us ++ at.done)) r.is ∙ ap trees_of (append_assoc r.others (r.last ∷ []) at.done) in
      let begun : tree_start listed place ≡ start = start_is listed start r.last (child_tree listed first t has r.others r.last at.done are) place place_is in
      let few : start ≤ root = omega (arith, inner, root_same) in
      let next_place : next ≡ start = is ∙ ap (min root) begun ∙ min-eq_right few in
      let row : root_numbers next (trees_of (r.last ∷ at.done)) ≡ root ∷ root_numbers place (trees_of at.done) =
      ap (λ n. root_numbers n (trees_of (r.last ∷ at.done))) next_place ∙ ap₂ (λ n m. n ∷ root_numbers m (trees_of at.done)) root_same behind_root in
      record {
        left = r.others;
        done = r.last ∷ at.done;
        are = are;
        reached = next_place;
        told = ap (λ ns. ns ++ root ∷ []) at.told ∙ sym (ap reverse row ∙ reverse-append (root ∷ []) (root_numbers place (trees_of at.done)));
      }

-- the walk came to a place, if there is a tree whose root has a number
abbrev pub HasWalked : List ParseNode → ℕ → ℕ → List ℕ → Type 0
HasWalked listed number place numbers = (terminals : List TerminalString) (productions : List Production) (first : ℕ) (t : Tree) → HasTree terminals productions listed first t → number ≡ root_number first t → IsAtPlace first t place numbers

pub walk_begins : (listed : List ParseNode) (number : ℕ) → HasWalked listed number number []
walk_begins listed number terminals productions first t has is = subst (λ n. IsAtPlace first t n []) (sym is) (begins first t)

pub walk_goes_on : (listed : List ParseNode) (number place root next : ℕ) (numbers : List ℕ) → first_number listed number < place → place ≡ suc root → next ≡ min root (tree_start listed place) → HasWalked listed number place numbers → HasWalked listed number next (numbers ++ root ∷ [])
walk_goes_on listed number place root next numbers l at_root is walked terminals productions first t has number_is =
    let start = first_is terminals productions listed first t has number number_is in
    walk_by terminals productions listed first t has place root numbers at_root (omega (arith, l, start)) (walked terminals productions first t has number_is) next is

pub walk_ends : (listed : List ParseNode) (number place : ℕ) (numbers : List ℕ) → place ≤ first_number listed number → HasWalked listed number place numbers → AreChildren listed number (reverse numbers)
walk_ends listed number place numbers l walked terminals productions first t has number_is =
    let start = first_is terminals productions listed first t has number number_is in
    ends first t place numbers (omega (arith, l, start)) (walked terminals productions first t has number_is)

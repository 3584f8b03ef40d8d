-- Trees that are dropped: the number of nodes that are left.
use Rattle.std.proofs.Common.{◌≡◌, ◌+◌, ◌<◌, ℕ, suc, List, [], ◌∷◌, ◌++◌, Bor, Vec, Global, map, refl, ap, ◌∙◌, arith}
use Rattle.lalrpop_ambiguity.specs.Words.{Tree, Leaf, Node, Trees, beside, trees_of, nodes}
use Rattle.lalrpop_ambiguity.proofs.Types.{Production}
use Rattle.lalrpop_ambiguity.specs.Words.{tree_of, tree_nodes}
use Rattle.lalrpop_ambiguity.specs.declared.derivation.Derivation.{Derivation}
use Rattle.lalrpop_ambiguity.specs.declared.derivation.Derivation.TheOpen as Open
use Rattle.lalrpop_ambiguity.specs.declared.derivation.Derivation.TheViews.{roll-Derivation, Node as NodeValue}
use denote.Ref.{NamedLft}
use denote.Hole.Carrier.{roll}
use denote.Hole.Rolled.{depth_is}
use Rattle.lalrpop_ambiguity.proofs.derivation.Derivation.TheLaws.{the_size}
use Rattle.lalrpop_ambiguity.proofs.theory.derivations.Views.{tree_of_roll}
use Rattle.lalrpop_ambiguity.proofs.theory.derivations.Leaves.{nodes_cons}

-- the nodes of trees are those of the first and those of the others
pub tree_nodes_cons : (x : Derivation) (xs : List Derivation) → tree_nodes (x ∷ xs) ≡ tree_nodes (x ∷ []) + tree_nodes xs
tree_nodes_cons x xs = nodes_cons (tree_of x) (trees_of (map tree_of xs))

some_node : (t : Tree) (ts : Trees) → 0 < nodes (beside t ts)
some_node (Leaf x) ts = omega arith
some_node (Node p children) ts = omega arith

-- only a list without trees has no nodes
pub no_nodes : (xs : List Derivation) → tree_nodes xs ≡ 0 → xs ≡ []
no_nodes [] none = refl
no_nodes (x ∷ xs) none =
    let some : 0 < tree_nodes (x ∷ xs) = some_node (tree_of x) (trees_of (map tree_of xs)) in
    absurd (omega (arith, some, none))

-- a node with its children has one node more than the children
pub nodes_below : (x : Derivation) (p : Production) (children xs : List Derivation) → tree_of x ≡ Node p (trees_of (map tree_of children)) → tree_nodes (x ∷ xs) ≡ suc (tree_nodes children + tree_nodes xs)
nodes_below x p children xs is = ap (λ (t : Tree). nodes (beside t (trees_of (map tree_of xs)))) is

-- the last tree may be counted first
pub last_first : (front : List Derivation) (x : Derivation) → tree_nodes (front ++ x ∷ []) ≡ tree_nodes (x ∷ front)
last_first [] x = refl
last_first (y ∷ front) x =
    let h : tree_nodes (front ++ x ∷ []) ≡ tree_nodes (x ∷ front) = last_first front x in
    let l : tree_nodes (y ∷ (front ++ x ∷ [])) ≡ tree_nodes (y ∷ []) + tree_nodes (front ++ x ∷ []) = tree_nodes_cons y (front ++ x ∷ []) in
    let r : tree_nodes (x ∷ front) ≡ tree_nodes (x ∷ []) + tree_nodes front = tree_nodes_cons x front in
    let s : tree_nodes (x ∷ (y ∷ front)) ≡ tree_nodes (x ∷ []) + tree_nodes (y ∷ front) = tree_nodes_cons x (y ∷ front) in
    let u : tree_nodes (y ∷ front) ≡ tree_nodes (y ∷ []) + tree_nodes front = tree_nodes_cons y front in
    omega (arith, h, l, r, s, u)

-- if a tree is popped and a node of it or of the others is dropped, there are fewer nodes
pub one_fewer : (rest front after : List Derivation) (x bare : Derivation) → rest ≡ front ++ x ∷ [] → tree_nodes (bare ∷ after) ≡ tree_nodes (x ∷ front) → tree_nodes (bare ∷ []) ≡ 1 → tree_nodes after < tree_nodes rest
one_fewer rest front after x bare popped kept one =
    let whole : tree_nodes rest ≡ tree_nodes (x ∷ front) = ap tree_nodes popped ∙ last_first front x in
    let split : tree_nodes (bare ∷ after) ≡ tree_nodes (bare ∷ []) + tree_nodes after = tree_nodes_cons bare after in
    omega (arith, whole, split, kept, one)

-- a node alone has no children
pub bare_node : (x : Derivation) (production : Bor Production) (children : Vec Derivation Global) → x ≡ NodeValue production children → tree_nodes (x ∷ []) ≡ 1 → children.items ≡ []
unfolding roll-Derivation roll
bare_node x production children is one =
    let seen : tree_of x ≡ Node production.now (trees_of (map tree_of children.items)) = ap tree_of is ∙ tree_of_roll (Open.Node production children) in
    let n : tree_nodes (x ∷ []) ≡ suc (tree_nodes children.items + 0) = nodes_below x production.now children.items [] seen in
    no_nodes children.items (omega (arith, n, one))

one_more : (n m : ℕ) → n ≡ m + 1 → 0 < n
one_more n m e = omega (arith, e)

-- each tree has a depth of at least 1
pub some_depth : (a : NamedLft) (x : Derivation) → 0 < the_size a x
unfolding denote.Hole.Rolled.depth Rattle.lalrpop_ambiguity.specs.declared.derivation.Derivation.TheBlock.the_depth
some_depth a x = one_more (the_size a x) _ (depth_is _ _ _ _ x)

-- Trees of the code, and the trees that they represent.
use Rattle.std.proofs.Common.{◌≡◌, ◌↔◌, Bool, true, false, List, [], ◌∷◌, ◌++◌, map, refl, ap, ap₂, sym, ◌∙◌, append-nil}
use Rattle.lalrpop_ambiguity.specs.Words.{Tree, Leaf, Node, Trees, no_trees, beside, trees_of, leaves}
use Rattle.lalrpop_ambiguity.proofs.Types.{Production}
use Rattle.lalrpop_ambiguity.specs.Words.{equal_tree, tree_exact, tree_same, tree_of, tree_step}
use Rattle.lalrpop_ambiguity.specs.declared.derivation.Derivation.{Derivation}
use Rattle.lalrpop_ambiguity.specs.declared.derivation.Derivation.TheOpen as Open
use Rattle.lalrpop_ambiguity.specs.declared.derivation.Derivation.TheViews.{roll-Derivation}
use Rattle.lalrpop_ambiguity.specs.declared.derivation.Derivation.TheFolds.{fold-roll-Derivation}

-- a node with the trees of its children
abbrev pub tree_from : Open.Derivation-F Derivation → Tree
tree_from (Open.Node production children) = Node production.now (trees_of (map tree_of children.items))
tree_from (Open.Leaf x) = Leaf x

pub tree_of_roll : (x : Open.Derivation-F Derivation) → tree_of (roll-Derivation x) ≡ tree_from x
tree_of_roll (Open.Node production children) = fold-roll-Derivation Tree tree_step (Open.Node production children)
tree_of_roll (Open.Leaf x) = fold-roll-Derivation Tree tree_step (Open.Leaf x)

-- the leaves of trees are those of the first and those of the others
pub leaves_cons : (t : Tree) (ts : Trees) → leaves (beside t ts) ≡ leaves (beside t no_trees) ++ leaves ts
leaves_cons (Leaf x) ts = refl
leaves_cons (Node p children) ts = ap (λ l. l ++ leaves ts) (sym (append-nil (leaves children)))

-- the trees beside one another, as a list again
abbrev pub listed : Trees → List Tree
listed no_trees = []
listed (beside t ts) = t ∷ listed ts

pub listed-trees : (ts : List Tree) → listed (trees_of ts) ≡ ts
listed-trees [] = refl
listed-trees (t ∷ ts) = ap (λ l. t ∷ l) (listed-trees ts)

pub trees-listed : (ts : Trees) → trees_of (listed ts) ≡ ts
trees-listed no_trees = refl
trees-listed (beside t ts) = ap (λ l. beside t l) (trees-listed ts)

abbrev pub children_of : Tree → Trees
children_of (Leaf x) = no_trees
children_of (Node p children) = children

-- two nodes of one production are the same exactly if their children are
pub same_nodes : (p q : Production) (ts us : List Tree) → p ≡ q → (Node p (trees_of ts) ≡ Node q (trees_of us)) ↔ (ts ≡ us)
same_nodes p q ts us e = (
  λ h. sym (listed-trees ts) ∙ ap (λ t. listed (children_of t)) h ∙ listed-trees us,
  λ h. ap₂ (λ x l. Node x (trees_of l)) e h,
)

-- two tests that are true in the same cases are equal
same_test : (b c : Bool) → (b ≡ true) ↔ (c ≡ true) → b ≡ c
same_test true c h = sym (h.0 refl)
same_test false true h = h.1 refl
same_test false false h = refl

-- a test that is true exactly for equal trees is the test of equality
pub same_as_equal : (b : Bool) (t u : Tree) → (b ≡ true) ↔ (t ≡ u) → b ≡ equal_tree t u
same_as_equal b t u h = same_test b (equal_tree t u) (λ k. tree_same t u (h.0 k), λ k. h.1 (tree_exact t u k))

-- Trees of the code, and the trees that they represent.
use Rattle.std.proofs.Common.{◌≡◌, ◌↔◌, Bool, true, List, [], ◌∷◌, ◌++◌, map, refl, ap, ap₂, sym, ◌∙◌, append-nil}
use Rattle.lalrpop_states.proofs.theory.states.HeldTokens.{same_test}
use Rattle.lalrpop_base.specs.Words.{Tree, Leaf, Node, Trees, no_trees, beside, trees_of, leaves}
use Rattle.lalrpop_parser.proofs.Types.{NonterminalString}
use Rattle.lalrpop_parser.specs.Words.{equal_tree, tree_exact, tree_same, tree_of, tree_step}
use Rattle.lalrpop_parser.specs.declared.interpret.tree.ParseTree.{ParseTree}
use Rattle.lalrpop_parser.specs.declared.interpret.tree.ParseTree.TheOpen as Open
use Rattle.lalrpop_parser.specs.declared.interpret.tree.ParseTree.TheViews.{roll-ParseTree}
use Rattle.lalrpop_parser.specs.declared.interpret.tree.ParseTree.TheFolds.{fold-roll-ParseTree}

-- a node with the trees of its children
abbrev pub tree_from : Open.ParseTree-F ParseTree → Tree
tree_from (Open.Nonterminal name children) = Node name (trees_of (map tree_of children.items))
tree_from (Open.Terminal t) = Leaf t

pub tree_of_roll : (x : Open.ParseTree-F ParseTree) → tree_of (roll-ParseTree x) ≡ tree_from x
tree_of_roll (Open.Nonterminal name children) = fold-roll-ParseTree Tree tree_step (Open.Nonterminal name children)
tree_of_roll (Open.Terminal t) = fold-roll-ParseTree Tree tree_step (Open.Terminal t)

-- the leaves of trees are those of the first and those of the others
pub leaves_cons : (t : Tree) (ts : Trees) → leaves (beside t ts) ≡ leaves (beside t no_trees) ++ leaves ts
leaves_cons (Leaf x) ts = refl
leaves_cons (Node a children) ts = ap (λ l. l ++ leaves ts) (sym (append-nil (leaves children)))

-- the trees beside one another, as a list again
abbrev pub listed : Trees → List Tree
listed no_trees = []
listed (beside t ts) = t ∷ listed ts

pub listed-trees : (ts : List Tree) → listed (trees_of ts) ≡ ts
listed-trees [] = refl
listed-trees (t ∷ ts) = ap (λ l. t ∷ l) (listed-trees ts)

pub trees-listed : (ts : Trees) → trees_of (listed ts) ≡ ts
trees-listed no_trees = refl
trees-listed (beside t ts) = ap (λ l. beside t l) (trees-listed ts)

abbrev pub children_of : Tree → Trees
children_of (Leaf t) = no_trees
children_of (Node a children) = children

-- two nodes of one name are the same exactly if their children are
pub same_nodes : (a b : NonterminalString) (ts us : List Tree) → a ≡ b → (Node a (trees_of ts) ≡ Node b (trees_of us)) ↔ (ts ≡ us)
same_nodes a b ts us e = (
  λ h. sym (listed-trees ts) ∙ ap (λ t. listed (children_of t)) h ∙ listed-trees us,
  λ h. ap₂ (λ x l. Node x (trees_of l)) e h,
)

-- a test that is true exactly for equal trees is the test of equality
pub same_as_equal : (b : Bool) (t u : Tree) → (b ≡ true) ↔ (t ≡ u) → b ≡ equal_tree t u
same_as_equal b t u h = same_test b (equal_tree t u) (λ k. tree_same t u (h.0 k), λ k. h.1 (tree_exact t u k))

-- Parse trees as nodes in a row, children before their parents. This is post-order: Knuth, The Art
-- of Computer Programming, volume 1, section 2.3.2.
use Rattle.std.specs.Prelude.{◌≡◌, ◌≢◌, ℕ, suc, ◌+◌, List, [], ◌∷◌, ◌++◌, Some, length, slice_get}
use Rattle.lalrpop_base.specs.Words.{Leaf, Node, Trees, beside, leaves, no_trees}
use Rattle.lalrpop_grammar.specs.declared.repr.NonterminalString.{NonterminalString}
use Rattle.lalrpop_grammar.specs.declared.repr.Production.{Production}
use Rattle.lalrpop_grammar.specs.declared.repr.TerminalString.{TerminalString}
use Rattle.parse_nodes.specs.declared.node.ParseNode.{ParseNode}

-- the node is that of a terminal at a position of the input
pub record IsLeafNode (terminals : List TerminalString) (t : TerminalString) (position : ℕ) (n : ParseNode) : Type 0 where
  pub label : slice_get terminals n.label ≡ Some t
  pub size : n.size ≡ 1
  pub first : n.first ≡ position
  pub end : n.end ≡ position + 1

-- the node is that of a production for a nonterminal. So many nodes are below it, and the terminals
-- below it have the positions from one up to another
pub record IsInnerNode (productions : List Production) (a : NonterminalString) (below from to : ℕ) (n : ParseNode) : Type 0 where
  pub production : Production
  pub label : slice_get productions n.label ≡ Some production
  pub name : production.nonterminal ≡ a
  pub size : n.size ≡ suc below
  pub first : n.first ≡ from
  pub end : n.end ≡ to

-- the nodes are those of trees in a row, from the left. The terminals of the trees have the positions
-- from one on. The first tree is a terminal, which is the first node, or its root stands after the
-- nodes of its children
abbrev pub AreNodes : List TerminalString → List Production → List ParseNode → ℕ → Trees → Type 0
AreNodes terminals productions nodes k no_trees = nodes ≡ []
AreNodes terminals productions nodes k (beside (Leaf t) ts) = (n : ParseNode) × (rest : List ParseNode) × (nodes ≡ n ∷ rest) × IsLeafNode terminals t k n × AreNodes terminals productions rest (k + 1) ts
AreNodes terminals productions nodes k (beside (Node a children) ts) = (below : List ParseNode) × (n : ParseNode) × (rest : List ParseNode) × (nodes ≡ below ++ n ∷ rest) × IsInnerNode productions a (length below) k (k + length (leaves children)) n × AreNodes terminals productions below k children × AreNodes terminals productions rest (k + length (leaves children)) ts

-- the node is seen to be a terminal: it stands alone, and it has a position
abbrev pub IsTerminalNode : ParseNode → Type 0
IsTerminalNode n = (n.size ≡ 1) × (n.first ≢ n.end)

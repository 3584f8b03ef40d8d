-- Theorems on the nodes of a run, which the functions of `laws.rt` state.
use Rattle.std.specs.Prelude.{◌≡◌, ◌↔◌, ℕ, suc, ◌+◌, List, [], ◌∷◌, ◌++◌, length, reverse}
use Rattle.lalrpop_base.specs.Words.{Configuration, Contents, Leaf, Node, Tree, Trees, begin, beside, no_trees, nodes, trees_of}
use Rattle.lalrpop_grammar.specs.declared.repr.NonterminalString.{NonterminalString}
use Rattle.lalrpop_grammar.specs.declared.repr.Production.{Production}
use Rattle.lalrpop_grammar.specs.declared.repr.TerminalString.{TerminalString}
use Rattle.table_parser.specs.Steps.{Handles, IsFinal}
use Rattle.parse_nodes.specs.Building.{AddsNode}
use Rattle.parse_nodes.specs.Children.{HasTree, root_number}
use Rattle.parse_nodes.specs.Nodes.{AreNodes, IsTerminalNode}
use Rattle.parse_nodes.specs.declared.builder.NodeBuilder.{NodeBuilder}
use Rattle.parse_nodes.specs.declared.node.ParseNode.{ParseNode}

-- a builder that was empty and took the steps of a run has the nodes of the trees on the stack, the
-- oldest first
abbrev pub StepsBuildTrees : Type 0
StepsBuildTrees = (terminals : List TerminalString) (productions : List Production) (states : ℕ → Contents) (w : List TerminalString) (n : ℕ) (c : Configuration) (h i : NodeBuilder) → h.nodes.items ≡ [] → Handles terminals productions states AddsNode n (begin w) h c i → AreNodes terminals productions i.nodes.items 0 (trees_of (reverse c.trees))

-- a builder that was empty and took the steps of a run and a final step that leaves one tree has the
-- nodes of this tree
abbrev pub ParsesBuildTrees : Type 0
ParsesBuildTrees = (terminals : List TerminalString) (productions : List Production) (states : ℕ → Contents) (w : List TerminalString) (n : ℕ) (c : Configuration) (t : Tree) (h i j : NodeBuilder) → h.nodes.items ≡ [] → Handles terminals productions states AddsNode n (begin w) h c i → IsFinal terminals productions states AddsNode c (t ∷ []) i j → AreNodes terminals productions j.nodes.items 0 (beside t no_trees)

-- the tree is a terminal
abbrev pub IsLeaf : Tree → Type 0
IsLeaf (Leaf t) = Unit {0}
IsLeaf (Node a children) = ⊥

-- by the last node of a tree it is seen whether the tree is a terminal
abbrev pub TerminalsAreSeen : Type 0
TerminalsAreSeen = (terminals : List TerminalString) (productions : List Production) (below : List ParseNode) (n : ParseNode) (k : ℕ) (t : Tree) → AreNodes terminals productions (below ++ n ∷ []) k (beside t no_trees) → IsTerminalNode n ↔ IsLeaf t

-- trees in a row have as many nodes as there are in the list
abbrev pub NodesAreCounted : Type 0
NodesAreCounted = (terminals : List TerminalString) (productions : List Production) (listed : List ParseNode) (k : ℕ) (ts : Trees) → AreNodes terminals productions listed k ts → length listed ≡ nodes ts

-- the nodes of a tree have it, from the first node on, and the last node is its root
abbrev pub TreesAreThere : Type 0
TreesAreThere = (terminals : List TerminalString) (productions : List Production) (listed : List ParseNode) (k : ℕ) (t : Tree) → AreNodes terminals productions listed k (beside t no_trees) → HasTree terminals productions listed 0 t × (suc (root_number 0 t) ≡ length listed)

-- a list that has a tree has each child of the tree, after the nodes of the children on its left
abbrev pub ChildrenAreThere : Type 0
ChildrenAreThere = (terminals : List TerminalString) (productions : List Production) (listed : List ParseNode) (first : ℕ) (a : NonterminalString) (ts : List Tree) (t : Tree) (us : List Tree) → HasTree terminals productions listed first (Node a (trees_of (ts ++ t ∷ us))) → HasTree terminals productions listed (first + nodes (trees_of ts)) t

-- the nodes of trees in a row are those of no other trees
abbrev pub TreesAreUnique : Type 0
TreesAreUnique = (terminals : List TerminalString) (productions : List Production) (listed : List ParseNode) (ts us : Trees) (k m : ℕ) → AreNodes terminals productions listed k ts → AreNodes terminals productions listed m us → ts ≡ us

-- The children of a node, by number. The number of a node is its place.
use Rattle.std.specs.Prelude.{◌≡◌, ℕ, ◌+◌, ◌-◌, List, [], ◌∷◌, ◌++◌, Option, None, Some, length, slice_get}
use Rattle.lalrpop_base.specs.Words.{Leaf, Node, Tree, Trees, beside, no_trees, nodes}
use Rattle.lalrpop_grammar.specs.declared.repr.Production.{Production}
use Rattle.lalrpop_grammar.specs.declared.repr.TerminalString.{TerminalString}
use Rattle.parse_nodes.specs.Nodes.{AreNodes}
use Rattle.parse_nodes.specs.declared.node.ParseNode.{ParseNode}

-- the number of the root of a tree whose first node has a number: the root comes after all others
abbrev pub root_number : ℕ → Tree → ℕ
root_number first (Leaf t) = first
root_number first (Node a children) = first + nodes children

-- the numbers of the roots of trees in a row whose first node has a number
abbrev pub root_numbers : ℕ → Trees → List ℕ
root_numbers first no_trees = []
root_numbers first (beside t ts) = root_number first t ∷ root_numbers (root_number first t + 1) ts

-- the numbers of the roots of the children of a tree whose first node has a number
abbrev pub child_numbers : ℕ → Tree → List ℕ
child_numbers first (Leaf t) = []
child_numbers first (Node a children) = root_numbers first children

-- a list has the nodes of a tree, the first of which has a number
pub record HasTree (terminals : List TerminalString) (productions : List Production) (listed : List ParseNode) (first : ℕ) (t : Tree) : Type 0 where
  pub before : List ParseNode
  pub own : List ParseNode
  pub after : List ParseNode
  pub position : ℕ
  pub is : listed ≡ before ++ own ++ after
  pub tree : AreNodes terminals productions own position (beside t no_trees)
  pub place : length before ≡ first

-- the numbers are those of the children of a tree, if the list has a tree whose root has a number
abbrev pub AreChildren : List ParseNode → ℕ → List ℕ → Type 0
AreChildren listed number numbers = (terminals : List TerminalString) (productions : List Production) (first : ℕ) (t : Tree) → HasTree terminals productions listed first t → number ≡ root_number first t → numbers ≡ child_numbers first t

-- how many nodes are before a root in its tree, by its size
abbrev pub others : Option ParseNode → ℕ
others None = 0
others (Some n) = n.size - 1

-- the number of the first node of the tree whose root has a number, by the size of the root
abbrev pub first_number : List ParseNode → ℕ → ℕ
first_number listed number = number - others (slice_get listed number)

-- A parse tree of the code without its places in memory, and its text.
use Rattle.std.specs.Prelude.{ℕ, Bool, true, false, List, [], ◌++◌, map, codes}
use Rattle.lalrpop_base.specs.Words.{terminal_text, nonterminal_text, Tree, Leaf, Node, Trees, no_trees, beside, nodes, trees_of}
use Rattle.lalrpop_parser.specs.declared.interpret.tree.ParseTree.{ParseTree, fold-ParseTree}
use Rattle.lalrpop_parser.specs.declared.interpret.tree.ParseTree.TheOpen as Open

-- a node with the trees of its children in their places
abbrev pub tree_step : Open.ParseTree-F Tree → Tree
tree_step (Open.Nonterminal name children) = Node name (trees_of children.items)
tree_step (Open.Terminal t) = Leaf t

-- the tree that a value of the code represents
abbrev pub tree_of : ParseTree → Tree
tree_of = fold-ParseTree Tree tree_step

-- the number of nodes that trees have
abbrev pub tree_nodes : List ParseTree → ℕ
tree_nodes trees = nodes (trees_of (map tree_of trees))

-- the text before a child
abbrev pub separator_text : Bool → List ℕ
separator_text true = []
separator_text false = codes ", "

-- the text of trees beside one another
abbrev pub trees_text : Bool → Trees → List ℕ
trees_text is_first no_trees = []
trees_text is_first (beside (Leaf t) ts) = separator_text is_first ++ (terminal_text t ++ trees_text false ts)
trees_text is_first (beside (Node a children) ts) = separator_text is_first ++ (codes "[" ++ (nonterminal_text a ++ (codes ": " ++ (trees_text true children ++ (codes "]" ++ trees_text false ts)))))

-- the text of a tree
abbrev pub tree_text : ParseTree → List ℕ
tree_text tree = trees_text true (beside (tree_of tree) no_trees)

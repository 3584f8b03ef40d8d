-- A derivation of the code without its places in memory, and its text.
use Rattle.std.specs.Prelude.{ℕ, Bool, true, false, List, [], ◌++◌, map, codes}
use Rattle.std.specs.Borrow.{Bor}
use Rattle.lalrpop_grammar.specs.declared.repr.Symbol.{Symbol}
use Rattle.lalrpop_grammar.specs.grammars.Names.{nonterminal_text, symbol_text}
use Rattle.lalrpop_ambiguity.specs.declared.derivation.Derivation.{Derivation, fold-Derivation}
use Rattle.lalrpop_ambiguity.specs.declared.derivation.Derivation.TheOpen as Open
use Rattle.lalrpop_ambiguity.specs.derivations.Derivations.{Tree, Leaf, Node, Trees, no_trees, beside, nodes, root, trees_of}

-- a node with the trees of its children in their places
abbrev pub tree_step : Open.Derivation-F Tree → Tree
tree_step (Open.Node production children) = Node production.now (trees_of children.items)
tree_step (Open.Leaf x) = Leaf x

-- the tree that a value of the code represents
abbrev pub tree_of : Derivation → Tree
tree_of = fold-Derivation Tree tree_step

-- the trees that references lead to
abbrev pub trees_at : List (Bor Derivation) → List Tree
trees_at trees = map (λ (t : Bor Derivation). tree_of t.now) trees

-- the symbols that references lead to
abbrev pub symbols_at : List (Bor Symbol) → List Symbol
symbols_at symbols = map (λ (x : Bor Symbol). x.now) symbols

-- the symbols at the roots of trees
abbrev pub roots_of : List Derivation → List Symbol
roots_of trees = map (λ (t : Derivation). root (tree_of t)) trees

-- the number of nodes that trees have
abbrev pub tree_nodes : List Derivation → ℕ
tree_nodes trees = nodes (trees_of (map tree_of trees))

-- the text before a child
abbrev pub separator_text : Bool → List ℕ
separator_text true = []
separator_text false = codes " "

-- the text of trees beside one another
abbrev pub trees_text : Bool → Trees → List ℕ
trees_text is_first no_trees = []
trees_text is_first (beside (Leaf x) ts) = separator_text is_first ++ (symbol_text x ++ trees_text false ts)
trees_text is_first (beside (Node p children) ts) = separator_text is_first ++ (codes "[" ++ (nonterminal_text p.nonterminal ++ (codes ": " ++ (trees_text true children ++ (codes "]" ++ trees_text false ts)))))

-- the text of a tree
abbrev pub tree_text : Derivation → List ℕ
tree_text tree = trees_text true (beside (tree_of tree) no_trees)

-- A parse tree as lines: a line for each node, indented by its depth.
use Rattle.std.specs.Prelude.{ℕ, zero, suc, List, [], ◌∷◌, ◌++◌, length, map, reverse, codes}
use Rattle.std.specs.Borrow.{Bor}
use Rattle.lalrpop_base.specs.Words.{Tree, Leaf, Node, Trees, no_trees, beside, root, symbol_text}
use Rattle.lalrpop_parser.specs.Words.{forest_of}
use Rattle.lalrpop_parser.specs.declared.interpret.tree.ParseTree.{ParseTree}

-- the indentation at a depth: two spaces for each level
abbrev pub indentation : ℕ → List ℕ
indentation zero = []
indentation (suc depth) = codes "  " ++ indentation depth

-- what is after the name of a node: an equals sign if it is a nonterminal without children
abbrev pub empty_mark : Tree → List ℕ
empty_mark (Leaf t) = []
empty_mark (Node a no_trees) = codes " ="
empty_mark (Node a (beside t ts)) = []

-- the line of the root of a tree at a depth
abbrev pub root_line : ℕ → Tree → List ℕ
root_line depth t = indentation depth ++ (symbol_text (root t) ++ (empty_mark t ++ codes "\n"))

-- the lines of trees beside one another at a depth: that of each root, and after it those of its
-- children, one level deeper
abbrev pub tree_lines : ℕ → Trees → List ℕ
tree_lines depth no_trees = []
tree_lines depth (beside (Leaf t) ts) = root_line depth (Leaf t) ++ tree_lines depth ts
tree_lines depth (beside (Node a children) ts) = root_line depth (Node a children) ++ (tree_lines (suc depth) children ++ tree_lines depth ts)

-- the lines of lists of trees that are left, the deepest first: the depth of a list is the number
-- of lists after it
abbrev pub lines_left : List Trees → List ℕ
lines_left [] = []
lines_left (here ∷ outer) = tree_lines (length outer) here ++ lines_left outer

-- the lists of trees on a stack, the newest first
abbrev pub rows_of : List (Bor (List ParseTree)) → List Trees
rows_of stack = reverse (map (λ (trees : Bor (List ParseTree)). forest_of trees.now) stack)

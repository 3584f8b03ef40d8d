-- A parse tree as a graph in the language of Graphviz.
use Rattle.std.specs.Prelude.{ℕ, suc, ◌+◌, ◌==◌, ◌||◌, List, [], ◌∷◌, ◌++◌, map, reverse, codes, if◌then◌else◌}
use Rattle.std.specs.Char.{encode_utf8}
use Rattle.std.specs.Fmt.{decimal}
use Rattle.std.specs.List.{flat_map}
use Rattle.std.specs.Str.{chars}
use Rattle.lalrpop_base.specs.Words.{Tree, Leaf, Node, Trees, no_trees, beside, nodes, root, symbol_text}
use Rattle.lalrpop_parser.specs.Words.{forest_of}
use Rattle.table_pictures.specs.Escape.{pictured}
use Rattle.parse_pictures.specs.TreeNodes.{trees_under}
use Rattle.parse_pictures.specs.declared.graph.Row.{Row}

-- a character between quotes: a quote and a backslash after a backslash, `&` by its name, the two
-- characters that XML does not have by U+FFFD, and any other as it is shown
abbrev pub quoted_char : ℕ → List ℕ
quoted_char c = if c == 34 then codes "\\\"" else if c == 92 then codes "\\\\" else if c == 38 then codes "&amp;" else if c == 0xFFFE || c == 0xFFFF then encode_utf8 0xFFFD else encode_utf8 (pictured c)

-- a text between quotes, character by character
abbrev pub quoted_text : List ℕ → List ℕ
quoted_text text = flat_map quoted_char (chars text)

-- what is after the label of a node: a leaf has no frame
abbrev pub node_shape : Tree → List ℕ
node_shape (Leaf t) = codes "\" shape=plaintext];\n"
node_shape (Node a children) = codes "\"];\n"

-- the line of a node: its number, and its name as its label
abbrev pub node_statement : ℕ → Tree → List ℕ
node_statement number t = codes "  " ++ (decimal number ++ (codes " [label=\"" ++ (quoted_text (symbol_text (root t)) ++ node_shape t)))

-- the line of the edge from a parent to a child
abbrev pub edge_statement : ℕ → ℕ → List ℕ
edge_statement parent child = codes "  " ++ (decimal parent ++ (codes " -> " ++ (decimal child ++ codes ";\n")))

-- the lines of trees beside one another under a parent, if the first root has a number. Each node
-- has the next number in preorder, and the edge to it is after it
abbrev pub statements_under : ℕ → ℕ → Trees → List ℕ
statements_under parent number no_trees = []
statements_under parent number (beside (Leaf t) ts) = node_statement number (Leaf t) ++ (edge_statement parent number ++ statements_under parent (suc number) ts)
statements_under parent number (beside (Node a children) ts) = node_statement number (Node a children) ++ (edge_statement parent number ++
    (statements_under number (suc number) children ++ statements_under parent (suc (number + nodes children)) ts))

-- the beginning of a graph: a node has a frame, and letters of one width
abbrev pub tree_graph_opening : List ℕ
tree_graph_opening = codes "digraph tree {\n  node [shape=box fontname=monospace];\n"

-- the graph of a tree: its root has the number 0
abbrev pub tree_statements : Tree → List ℕ
tree_statements t = tree_graph_opening ++ (node_statement 0 t ++ (statements_under 0 1 (trees_under t) ++ codes "}\n"))

-- the lines of lists of trees that are left, the deepest first, each with the number of its parent,
-- if the next node has a number
abbrev pub statements_left : ℕ → List (ℕ × Trees) → List ℕ
statements_left number [] = []
statements_left number ((parent, here) ∷ outer) = statements_under parent number here ++ statements_left (number + nodes here) outer

-- the trees of a row of the code, with the number of their parent
abbrev pub row_of : Row → ℕ × Trees
row_of row = (row.parent, forest_of row.trees.now)

-- the rows on a stack, the newest first
abbrev pub parented_rows : List Row → List (ℕ × Trees)
parented_rows stack = reverse (map row_of stack)

-- the trees of rows, without the numbers of their parents
abbrev pub trees_in : List (ℕ × Trees) → List Trees
trees_in rows = map (λ (row : ℕ × Trees). row.1) rows

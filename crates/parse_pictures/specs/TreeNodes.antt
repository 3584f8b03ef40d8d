-- The nodes of a parse tree, and the lists of trees that are left of one.
use Rattle.std.specs.Prelude.{ℕ, suc, ◌+◌, List, [], ◌∷◌}
use Rattle.lalrpop_base.specs.Words.{Tree, Leaf, Node, Trees, no_trees, nodes}

-- the trees under the root of a tree: none for a leaf
abbrev pub trees_under : Tree → Trees
trees_under (Leaf t) = no_trees
trees_under (Node a children) = children

-- how many turns a walk makes over lists of trees that are left: two for each node, and one for the
-- end of each list
abbrev pub turns_left : List Trees → ℕ
turns_left [] = 0
turns_left (here ∷ outer) = suc (nodes here + nodes here + turns_left outer)

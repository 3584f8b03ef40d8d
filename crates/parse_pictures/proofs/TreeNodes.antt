-- The first of some trees, and its children.
use Rattle.std.proofs.Common.{◌≡◌, ◌<◌, ◌+◌, suc, List, ◌∷◌, arith}
use Rattle.lalrpop_base.specs.Words.{Tree, Leaf, Node, Trees, beside, nodes}
use Rattle.parse_pictures.specs.TreeNodes.{trees_under, turns_left}

-- the nodes of trees are the first root, those under it and those of the other trees
pub nodes_first : (t : Tree) (ts : Trees) → nodes (beside t ts) ≡ suc (nodes (trees_under t) + nodes ts)
nodes_first (Leaf x) ts = omega arith
nodes_first (Node a children) ts = omega arith

-- fewer turns are left if the children of the first tree are a list of their own
pub turns_fewer : (t : Tree) (ts : Trees) (outer : List Trees) → turns_left (trees_under t ∷ (ts ∷ outer)) < turns_left (beside t ts ∷ outer)
turns_fewer t ts outer =
    let split : nodes (beside t ts) ≡ suc (nodes (trees_under t) + nodes ts) = nodes_first t ts in
    omega (arith, split)

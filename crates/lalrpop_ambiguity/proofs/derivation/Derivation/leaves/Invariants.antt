use Rattle.std.proofs.Common.{◌≡◌, ◌++◌, reverse}
use Rattle.lalrpop_ambiguity.specs.Words.{leaves, nodes, beside, no_trees, trees_of}
use Rattle.lalrpop_ambiguity.specs.Words.{symbols_at, tree_of, trees_at}
use Rattle.lalrpop_ambiguity.proofs.derivation.Derivation.leaves.Given as goal

-- the leaves so far, and the leaves of the trees on the stack, are the leaves of the tree
abbrev pub invariant-loop-tree : goal.invariant-loop-tree
invariant-loop-tree l =
    symbols_at l.list.items ++ leaves (trees_of (reverse (trees_at l.left.items))) ≡ leaves (beside (tree_of l.self) no_trees)

-- each turn reads one node
abbrev pub decreases-loop-tree : goal.decreases-loop-tree
decreases-loop-tree l = nodes (trees_of (trees_at l.left.items))

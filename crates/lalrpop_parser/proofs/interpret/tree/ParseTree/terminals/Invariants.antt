use Rattle.std.proofs.Common.{◌≡◌, ◌++◌, map, reverse}
use Rattle.lalrpop_base.specs.Words.{leaves, nodes, beside, no_trees, trees_of}
use Rattle.lalrpop_parser.specs.Words.{tree_of}
use Rattle.lalrpop_parser.proofs.interpret.tree.ParseTree.terminals.Given as goal

-- the leaves so far, and the leaves of the trees on the stack, are the leaves of the tree
abbrev pub invariant-loop-tree : goal.invariant-loop-tree
invariant-loop-tree l =
    l.list.items ++ leaves (trees_of (reverse (map (λ t. tree_of t.now) l.left.items))) ≡ leaves (beside (tree_of l.self) no_trees)

-- each turn reads one node
abbrev pub decreases-loop-tree : goal.decreases-loop-tree
decreases-loop-tree l = nodes (trees_of (map (λ t. tree_of t.now) l.left.items))

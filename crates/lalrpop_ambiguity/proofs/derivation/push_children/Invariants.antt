use Rattle.std.proofs.Common.{◌≡◌, ◌++◌, map, reverse}
use Rattle.lalrpop_ambiguity.specs.Words.{tree_of}
use Rattle.lalrpop_ambiguity.proofs.derivation.push_children.Given as goal

-- the trees on the stack, and the children that are left, are the trees at first and all children
abbrev pub invariant-loop-child : goal.invariant-loop-child
invariant-loop-child l =
    map (λ t. tree_of t.now) l.left.items ++ reverse (map tree_of l.child-iterator.iter.rest.now) ≡ map (λ t. tree_of t.now) l.fn.left.items ++ reverse (map tree_of l.children.items)

use Rattle.std.proofs.Common.{◌≡◌, length}
use Rattle.lalrpop_ambiguity.specs.Words.{Node}
use Rattle.lalrpop_ambiguity.specs.Words.{forest_of, steps_of, tree_within}
use Rattle.lalrpop_ambiguity.proofs.derivation.copies.clone_node.Given as goal

-- the steps that are left complete the copy so far to the whole node
abbrev pub invariant-steps : goal.invariant-steps
invariant-steps l = tree_within l.node l.around.items (steps_of l.walk) ≡ Node l.production (forest_of l.children.items)

abbrev pub decreases-steps : goal.decreases-steps
decreases-steps l = length (steps_of l.walk)

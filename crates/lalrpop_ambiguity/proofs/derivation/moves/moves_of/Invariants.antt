use Rattle.std.proofs.Common.{◌≡◌, length}
use Rattle.lalrpop_ambiguity.specs.Words.{moves_of, moves_with, steps_of, tree_of}
use Rattle.lalrpop_ambiguity.proofs.derivation.moves.moves_of.Given as goal

-- the moves so far, and those of the steps that are left, are the moves of the tree
abbrev pub invariant-steps : goal.invariant-steps
invariant-steps l = moves_with l.made.items l.around.items (steps_of l.walk) ≡ moves_of (tree_of l.tree)

abbrev pub decreases-steps : goal.decreases-steps
decreases-steps l = length (steps_of l.walk)

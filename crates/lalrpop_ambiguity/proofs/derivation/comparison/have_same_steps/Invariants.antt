use Rattle.std.proofs.Common.{◌≡◌, ◌↔◌, map, length}
use Rattle.lalrpop_ambiguity.specs.Words.{steps_of, tree_of}
use Rattle.lalrpop_ambiguity.proofs.derivation.comparison.have_same_steps.Given as goal

-- the same steps are left exactly if the trees are the same
abbrev pub invariant-steps : goal.invariant-steps
invariant-steps l = (steps_of l.walk ≡ steps_of l.other) ↔ (map tree_of l.trees.items ≡ map tree_of l.others.items)

abbrev pub decreases-steps : goal.decreases-steps
decreases-steps l = length (steps_of l.walk)

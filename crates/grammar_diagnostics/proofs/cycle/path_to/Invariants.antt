use Rattle.grammar_diagnostics.specs.CyclePaths.{names_now}
use Rattle.grammar_diagnostics.proofs.CycleSteps.{IsPathFrom}
use Rattle.grammar_diagnostics.proofs.cycle.path_to.Given as goal

-- the path so far
abbrev pub invariant-loop-at : goal.invariant-loop-at
invariant-loop-at l = IsPathFrom l.grammar l.first l.steps l.at (names_now l.path.items)

abbrev pub decreases-loop-at : goal.decreases-loop-at
decreases-loop-at l = l.at

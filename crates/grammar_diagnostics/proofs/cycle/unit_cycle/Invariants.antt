use Rattle.grammar_diagnostics.specs.CyclePaths.{AreSteps}
use Rattle.grammar_diagnostics.proofs.cycle.unit_cycle.Given as goal

abbrev pub invariant-loop-place : goal.invariant-loop-place
invariant-loop-place l = AreSteps l.grammar l.name l.steps.items

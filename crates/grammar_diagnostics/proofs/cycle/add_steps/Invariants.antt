use Rattle.grammar_diagnostics.specs.CyclePaths.{AreSteps, HasStepAt}
use Rattle.grammar_diagnostics.proofs.cycle.add_steps.Given as goal

-- the steps so far are steps, and the one that leads to the names stays
abbrev pub invariant-loop-name : goal.invariant-loop-name
invariant-loop-name l = AreSteps l.grammar l.first l.steps.items × HasStepAt l.steps.items l.place l.parent

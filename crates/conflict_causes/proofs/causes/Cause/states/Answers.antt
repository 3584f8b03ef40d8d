use Rattle.std.proofs.Common.{ℕ, List, IfOk, subst}
use Rattle.conflict_causes.specs.Extents.{AreCauseStates}
use Rattle.conflict_causes.proofs.causes.Cause.states.Goals as goal

pub returns : goal.returns
returns c = record { states = subst (λ (numbers : List ℕ). IfOk c.states_of.result (λ set. AreCauseStates c.args.conflicts.now numbers set.keys)) c.conflicts.ensures c.states_of.ensures }

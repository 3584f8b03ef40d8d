use Rattle.lalrpop_states.proofs.Types.{State}
use Rattle.lalrpop_states.specs.Words.{IsCoherentState}
use Rattle.std.proofs.Common.{◌≡◌, ℕ, ◌<◌}
use Rattle.std.specs.Prelude.{slice_get, Some}
use Rattle.lalrpop_states.proofs.lr1_core.coherent.are_coherent.Given as goal

abbrev pub invariant-loop-place : goal.invariant-loop-place
invariant-loop-place g l = (k : ℕ) (state : State g.row.L.Denot) → k < l.place → slice_get l.states k ≡ Some state → IsCoherentState l.states k state

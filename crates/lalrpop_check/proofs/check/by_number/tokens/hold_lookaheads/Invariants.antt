use Rattle.std.proofs.Common.{◌≡◌, ℕ, ◌<◌, Some}
use Rattle.std.specs.Prelude.{slice_get}
use Rattle.std.specs.Borrow.{Bor}
use Rattle.lalrpop_base.specs.Words.{Bits}
use Rattle.lalrpop_check.proofs.Types.{Production, State}
use Rattle.lalrpop_check.specs.check.ByNumber.{HoldsUnion}
use Rattle.lalrpop_follow_sets.specs.follow_sets.FollowWalks.{entries_at}
use Rattle.lalrpop_construction.specs.declared.construction.numbered_state.NumberedState.{NumberedState}
use Rattle.lalrpop_check.proofs.check.by_number.tokens.hold_lookaheads.Given as goal

abbrev pub invariant-loop-place : goal.invariant-loop-place
invariant-loop-place l = (s j k : ℕ) (old : State Bits) (state : NumberedState) (r : Bits × Bor Production) → s < l.place → slice_get l.states s ≡ Some old → slice_get l.numbered s ≡ Some state → slice_get old.reductions.items j ≡ Some r → slice_get state.reductions.items j ≡ Some k →
    HoldsUnion l.found.follow.items (entries_at l.found.lookback.items s) k r.0

use Rattle.std.proofs.Common.{◌≡◌, ◌<◌, ℕ, Some}
use Rattle.std.specs.Prelude.{slice_get}
use Rattle.std.specs.Borrow.{Bor}
use Rattle.lalrpop_base.specs.Words.{Bits}
use Rattle.lalrpop_lanes.specs.Words.{IsReductionAt}
use Rattle.lalrpop_lanes.proofs.Types.{Production}
use Rattle.lalrpop_lanes.proofs.lane_table.context_set.are_among.Given as goal

abbrev pub invariant-loop-tokens : goal.invariant-loop-tokens
invariant-loop-tokens l = (k : ℕ) (r : Bits × Bor Production) → k < l._tokens-index → slice_get l.reductions k ≡ Some r → (place : ℕ) × IsReductionAt l.actions.keys place r.1.now

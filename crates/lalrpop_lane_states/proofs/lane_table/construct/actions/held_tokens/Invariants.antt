use Rattle.std.proofs.Common.{◌↔◌, ℕ, take}
use Rattle.std.specs.Prelude.{IsTrue}
use Rattle.lalrpop_base.specs.Words.{has}
use Rattle.lalrpop_states.specs.conflicts.HeldShifts.{IsHeldBit}
use Rattle.lalrpop_lane_states.proofs.lane_table.construct.actions.held_tokens.Given as goal

abbrev pub invariant-loop-reduction : goal.invariant-loop-reduction
invariant-loop-reduction l = (bit : ℕ) → IsTrue (has l.held bit) ↔ IsHeldBit (take l.reduction-index l.reductions) bit

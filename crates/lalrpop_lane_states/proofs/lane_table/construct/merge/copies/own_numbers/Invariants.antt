use Rattle.std.proofs.Common.{◌≡◌, ℕ, ◌<◌, length, Some}
use Rattle.std.specs.Prelude.{slice_get}
use Rattle.lalrpop_lane_states.proofs.lane_table.construct.merge.copies.own_numbers.Given as goal

abbrev pub invariant-loop-number : goal.invariant-loop-number
invariant-loop-number l = record { counted : length l.numbers.items ≡ l.number; own : (n : ℕ) → n < l.number → slice_get l.numbers.items n ≡ Some n }

use Rattle.std.proofs.Common.{◌≡◌, ℕ, length, slice_get, Some}
use Rattle.lalrpop_base.specs.Words.{Bits, no_bits}
use Rattle.lalrpop_lanes.proofs.lane_table.context_set.ContextSet.new.Given as goal

abbrev pub invariant-loop-column : goal.invariant-loop-column
invariant-loop-column l = (length l.values.items ≡ l._column) × ((k : ℕ) (column : Bits) → slice_get l.values.items k ≡ Some column → column ≡ no_bits)

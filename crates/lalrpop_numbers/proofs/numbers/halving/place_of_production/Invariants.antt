use Rattle.std.proofs.Common.{◌-◌, ◌≡◌, ℕ, slice_get, Some, ◌<◌, ◌≤◌, length}
use Rattle.lalrpop_states.specs.Words.{Dotted}
use Rattle.lalrpop_numbers.proofs.Types.{Nil}
use Rattle.lalrpop_numbers.proofs.numbers.halving.place_of_production.Given as goal

abbrev pub invariant-loop-low : goal.invariant-loop-low
invariant-loop-low l = record {
  within : l.high ≤ length l.items;
  meet : l.low ≤ l.high;
  around : (k : ℕ) (i : Dotted Nil) → slice_get l.items k ≡ Some i → i.production ≡ l.production → (l.low ≤ k) × (k < l.high);
}

abbrev pub decreases-loop-low : goal.decreases-loop-low
decreases-loop-low l = l.high - l.low

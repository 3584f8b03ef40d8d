use Rattle.std.proofs.Common.{◌-◌, ◌≡◌, ℕ, slice_get, Some, ◌<◌, ◌≤◌, length}
use Rattle.lalrpop_follow_sets.proofs.follow_sets.edges.place_of.Given as goal

abbrev pub invariant-loop-low : goal.invariant-loop-low
invariant-loop-low l = record {
  within : l.high ≤ length l.edges;
  meet : l.low ≤ l.high;
  below : (k x m : ℕ) → k < l.low → slice_get l.edges k ≡ Some (x, m) → x < l.symbol;
  above : (k x m : ℕ) → l.high ≤ k → slice_get l.edges k ≡ Some (x, m) → l.symbol ≤ x;
}

abbrev pub decreases-loop-low : goal.decreases-loop-low
decreases-loop-low l = l.high - l.low

use Rattle.std.proofs.Common.{◌≤◌, ◌-◌, length}
use Rattle.lalrpop_check.proofs.check.by_number.leading.has_number.Given as goal

abbrev pub invariant-loop-low : goal.invariant-loop-low
invariant-loop-low l = record {
  within : l.high ≤ length l.list;
  meet : l.low ≤ l.high;
}

abbrev pub decreases-loop-low : goal.decreases-loop-low
decreases-loop-low l = l.high - l.low

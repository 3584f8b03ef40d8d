use Rattle.std.proofs.Common.{◌≡◌, length}
use Rattle.lalrpop_check.specs.check.ByNumber.{AreFoundMarked, AreMarkedReached}
use Rattle.lalrpop_check.proofs.check.by_number.reached.are_reached.Given as goal

abbrev pub invariant-loop-count : goal.invariant-loop-count
invariant-loop-count l = record {
  counted : length l.marks.items ≡ length l.states;
  marked : AreMarkedReached l.states l.marks.items;
  found : AreFoundMarked l.marks.items l.found.items;
}

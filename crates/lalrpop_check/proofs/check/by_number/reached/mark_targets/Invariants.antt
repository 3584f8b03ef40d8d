use Rattle.std.proofs.Common.{take}
use Rattle.lalrpop_check.specs.check.ByNumber.{MarksTargets}
use Rattle.lalrpop_check.proofs.check.by_number.reached.mark_targets.Given as goal

abbrev pub invariant-loop-edge : goal.invariant-loop-edge
invariant-loop-edge l = MarksTargets (take l.edge-index l.edges) l.fn.marks.items l.fn.found.items l.marks.items l.found.items

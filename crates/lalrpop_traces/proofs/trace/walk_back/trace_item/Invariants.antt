use Rattle.std.proofs.Common.{◌+◌, length}
use Rattle.lalrpop_traces.specs.Words.{asked, duties_left, AreNamed, WalksOn, work}
use Rattle.lalrpop_traces.proofs.trace.walk_back.trace_item.Given as goal

abbrev pub invariant-loop-task : goal.invariant-loop-task
invariant-loop-task l = record {
  walks : WalksOn (asked l.trace) (duties_left (asked l.trace) l.initial.tasks.items) (duties_left (asked l.trace) l.tasks.items) l.initial.met l.met;
  named : AreNamed (asked l.trace) (duties_left (asked l.trace) l.tasks.items);
}

abbrev pub decreases-loop-task : goal.decreases-loop-task
decreases-loop-task l = work (asked l.trace) l.met (duties_left (asked l.trace) l.tasks.items) + length l.tasks.items

use Rattle.std.proofs.Common.{◌≡◌}
use Rattle.lalrpop_traces.specs.Words.{asked, duties_left}
use Rattle.lalrpop_traces.proofs.theory.traces.TraceSteps.{IsPassed}
use Rattle.lalrpop_traces.proofs.trace.walk_back.meet_items.Given as goal

abbrev pub invariant-loop-place : goal.invariant-loop-place
invariant-loop-place l = record {
  met : l.met ≡ l.initial.met;
  tasks : l.tasks.items ≡ l.initial.tasks.items;
  passed : IsPassed (asked l.trace) (l.state, l.name) l.items (duties_left (asked l.trace) l.initial.tasks.items) l.initial.met l.next l.place;
}

use Rattle.std.proofs.Common.{◌≡◌, ◌≤◌}
use Rattle.lalrpop_traces.specs.Words.{IsSameFilter, LeavesOut, load, remaining}
use Rattle.lalrpop_traces.proofs.trace.filtered.FilteredPathEnumerator.advance_meeting.Given as goal

abbrev pub invariant-loop-number : goal.invariant-loop-number
invariant-loop-number l = record {
  graph : l.self.base.graph.now ≡ l.initial.self.base.graph.now;
  sets : l.self.first_sets.now ≡ l.initial.self.first_sets.now;
  same : IsSameFilter l.initial.self l.self;
  refused : l.self.base.refused ≡ l.initial.self.base.refused;
  less : load l.self.base ≤ load l.initial.self.base;
  left : LeavesOut l.initial.self (remaining l.initial.self.base) (remaining l.self.base);
}

abbrev pub decreases-loop-number : goal.decreases-loop-number
decreases-loop-number l = load l.self.base

use Rattle.std.proofs.Common.{◌≡◌, ◌≤◌}
use Rattle.lalrpop_traces.specs.Words.{bound, HasSkipped}
use Rattle.lalrpop_traces.proofs.trace.filtered.FilteredPathEnumeratorIterator.next.Given as goal

abbrev pub invariant-loop-self : goal.invariant-loop-self
invariant-loop-self l = record {
  graph : l.self.base.graph.now ≡ l.initial.self.base.graph.now;
  sets : l.self.first_sets.now ≡ l.initial.self.first_sets.now;
  less : bound l.self.base ≤ bound l.initial.self.base;
  skipped : HasSkipped l.initial.self l.self;
}

abbrev pub decreases-loop-self : goal.decreases-loop-self
decreases-loop-self l = bound l.self.base

use Rattle.std.proofs.Common.{◌≡◌, ◌≤◌}
use Rattle.lalrpop_traces.specs.Words.{load, remaining}
use Rattle.lalrpop_traces.proofs.trace.enumerator.PathEnumerator.advance.Given as goal

abbrev pub invariant-loop-number : goal.invariant-loop-number
invariant-loop-number l = record {
  graph : l.self.graph.now ≡ l.initial.self.graph.now;
  start : l.self.start ≡ l.initial.self.start;
  refused : l.self.refused ≡ l.initial.self.refused;
  less : load l.self ≤ load l.initial.self;
  paths : remaining l.self ≡ remaining l.initial.self;
}

abbrev pub decreases-loop-number : goal.decreases-loop-number
decreases-loop-number l = load l.self

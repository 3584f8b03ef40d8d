use Rattle.std.proofs.Common.{◌≡◌, ◌≤◌}
use Rattle.lalrpop_traces.specs.Words.{load, remaining, steps}
use Rattle.lalrpop_traces.proofs.trace.enumerator.PathEnumerator.next_edge.Given as goal

abbrev pub invariant-loop-self : goal.invariant-loop-self
invariant-loop-self l = record {
  graph : l.self.graph.now ≡ l.initial.self.graph.now;
  start : l.self.start ≡ l.initial.self.start;
  refused : l.self.refused ≡ l.initial.self.refused;
  less : load l.self ≤ load l.initial.self;
  paths : remaining l.self ≡ remaining l.initial.self;
}

abbrev pub decreases-loop-self : goal.decreases-loop-self
decreases-loop-self l = steps l.self

use Rattle.std.proofs.Common.{◌-◌, sym, ◌∙◌, arith}
use Rattle.lalrpop_traces.specs.Words.{node_count, frames}
use Rattle.lalrpop_traces.proofs.theory.traces.PathsLeft.{taken_paths, none_paths}
use Rattle.lalrpop_traces.proofs.theory.traces.Walks.{taken_load, none_load}
use Rattle.lalrpop_traces.proofs.trace.enumerator.PathEnumerator.next_edge.Goals as goal

pub returns-in-Some-clause-taken : goal.returns-in-Some-clause-taken
returns-in-Some-clause-taken c =
    let walk = c.loop-self.self in
    taken_load walk.graph.now walk.start (node_count walk.graph.now) (frames walk) (walk.left - 1) walk.left _ c.in-Some.number (omega arith) c.loop-self.invariant.less (sym c.number.ensures ∙ c.in-Some.is)

pub returns-in-Some-clause-paths : goal.returns-in-Some-clause-paths
returns-in-Some-clause-paths c =
    let walk = c.loop-self.self in
    taken_paths walk.graph.now walk.start (frames walk) (walk.left - 1) walk.left c.in-Some.number (omega arith) (sym c.number.ensures ∙ c.in-Some.is) ∙ c.loop-self.invariant.paths

pub loop-self-preserved-in_default : goal.loop-self-preserved-in_default
loop-self-preserved-in_default c =
    let walk = c.loop-self.self in
    let none = sym c.number.ensures ∙ c.in_default.is in
    record {
      graph = c.loop-self.invariant.graph;
      start = c.loop-self.invariant.start;
      refused = c.loop-self.invariant.refused;
      less = omega (arith, none_load walk.graph.now walk.start (node_count walk.graph.now) (frames walk) (walk.left - 1) walk.left (omega arith) none, c.loop-self.invariant.less);
      paths = none_paths walk.graph.now walk.start (frames walk) (walk.left - 1) walk.left (omega arith) none ∙ c.loop-self.invariant.paths;
    }

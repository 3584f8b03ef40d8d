use Rattle.lalrpop_lr1.specs.Words.{AreKnownEdges}
use Rattle.lalrpop_bench.proofs.ask.traces.push_paths.Given as goal

-- the terminals of the graph of the walk stay known
abbrev pub invariant-paths : goal.invariant-paths
invariant-paths l = AreKnownEdges l.first_sets.terminals l.walk.graph.now.edges

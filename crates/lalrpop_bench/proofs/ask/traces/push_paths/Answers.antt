use Rattle.std.proofs.Common.{sym, subst}
use Rattle.lalrpop_lr1.specs.Words.{Graph, AreKnownEdges}
use Rattle.lalrpop_bench.proofs.ask.traces.push_paths.Goals as goal

pub paths-preserved : goal.paths-preserved
paths-preserved c = subst (λ (g : Graph). AreKnownEdges c.args.first_sets.now.terminals g.edges) (sym c.advance.ensures.graph) c.paths.invariant

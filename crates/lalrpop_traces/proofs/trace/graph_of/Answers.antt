use Rattle.lalrpop_traces.specs.Words.{asked}
use Rattle.lalrpop_traces.proofs.theory.traces.TracedRightSides.{traced_right_sides, known_edges}
use Rattle.lalrpop_traces.proofs.trace.graph_of.Goals as goal

pub returns-clause-right_sides : goal.returns-clause-right_sides
returns-clause-right_sides c own = traced_right_sides (asked c.args.trace.now) own _ c.in_ok-trace_item.ensures.traced

pub returns-clause-known : goal.returns-clause-known
returns-clause-known c known own =
    known_edges c.args.trace.now.context.now.first_sets.now _ known (traced_right_sides (asked c.args.trace.now) own _ c.in_ok-trace_item.ensures.traced)

use Rattle.lalrpop_traces.proofs.theory.traces.Alike.{alike_order}
use Rattle.lalrpop_traces.proofs.theory.traces.TracedWalks.{is_trace}
use Rattle.lalrpop_traces.specs.Words.{reduction_traced}
use Rattle.lalrpop_traces.proofs.trace.trace_graph.TraceGraph.for_item.Goals as goal

pub returns-clause-ordered : goal.returns-clause-ordered
returns-clause-ordered c = λ productions states state other like alike order. alike_order productions states state other c.args.item.now like c.args.self.now c.in_ok-graph.graph alike order c.in_ok-graph.ensures

pub returns-clause-traced : goal.returns-clause-traced
returns-clause-traced c = λ productions states state other like alike order.
    is_trace (reduction_traced productions states state c.args.item.now) c.in_ok-graph.graph (alike_order productions states state other c.args.item.now like c.args.self.now c.in_ok-graph.graph alike order c.in_ok-graph.ensures)

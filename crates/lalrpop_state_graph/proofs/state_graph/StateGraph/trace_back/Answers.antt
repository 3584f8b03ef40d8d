use Rattle.lalrpop_state_graph.proofs.theory.graphs.Stepping.{tracing_start, tracing_more, tracing_all}
use Rattle.lalrpop_state_graph.proofs.state_graph.StateGraph.trace_back.Goals as goal

pub loop-symbol-init : goal.loop-symbol-init
loop-symbol-init c = tracing_start _ _ _ _ _ c.new-found.ensures.items c.in_ok-push.ensures.items

pub loop-symbol-preserved : goal.loop-symbol-preserved
loop-symbol-preserved c = tracing_more _ _ _ _ _ _ c.loop-symbol.found.items _ c.in-Some.ensures.cases.0 (rw c.deref.ensures.value at c.in_ok-found.ensures.sources) c.in_ok-found.ensures.ascending c.loop-symbol.invariant

pub returns-clause-exactly : goal.returns-clause-exactly
returns-clause-exactly c = tracing_all _ _ _ _ _ c.in_default.ensures.cases c.loop-symbol.invariant

pub returns-clause-ascending : goal.returns-clause-ascending
returns-clause-ascending c = c.loop-symbol.invariant.ascending

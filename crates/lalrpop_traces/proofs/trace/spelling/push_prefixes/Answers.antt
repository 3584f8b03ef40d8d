use Rattle.lalrpop_traces.proofs.theory.traces.Spelling.{prefix_step, prefixes_done}
use Rattle.lalrpop_traces.proofs.trace.spelling.push_prefixes.Goals as goal

pub loop-outermost-preserved : goal.loop-outermost-preserved
loop-outermost-preserved c = prefix_step c.args.graph.now _ _ _ _ _ _ _ c.in-Some.ensures.cases.0 c.in_ok-push_symbols.ensures c.labels.ensures.prefix c.loop-outermost.invariant

pub returns : goal.returns
returns c = prefixes_done c.args.graph.now _ _ _ c.in_default.ensures.cases c.loop-outermost.invariant

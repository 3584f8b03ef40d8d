use Rattle.lalrpop_traces.proofs.theory.traces.Spelling.{suffix_step, suffixes_done}
use Rattle.lalrpop_traces.proofs.trace.spelling.push_suffixes.Goals as goal

pub loop-innermost-preserved : goal.loop-innermost-preserved
loop-innermost-preserved c = suffix_step c.args.graph.now _ _ _ _ _ _ _ c.in-Some.ensures.cases.0 c.in_ok-push_symbols.ensures c.labels.ensures.suffix c.loop-innermost.invariant

pub returns : goal.returns
returns c = suffixes_done c.args.graph.now _ _ _ c.in_default.ensures.cases c.loop-innermost.invariant

use Rattle.std.proofs.Common.{◌++◌, ap}
use Rattle.lalrpop_traces.specs.Words.{path_of, suffixes}
use Rattle.lalrpop_traces.proofs.theory.traces.KnownLabels.{known_more}
use Rattle.lalrpop_traces.proofs.theory.traces.Spelling.{following_step, following_done}
use Rattle.lalrpop_traces.proofs.trace.spelling.symbols_behind.Goals as goal

pub loop-inner-init : goal.loop-inner-init
loop-inner-init c = record { known = c.in_ok-symbols.ensures.known; made = ap (λ xs. xs ++ suffixes c.args.graph.now (path_of c.args.path.now)) c.in_ok-symbols.ensures.innermost }

pub loop-inner-preserved : goal.loop-inner-preserved
loop-inner-preserved c = record {
  known = λ terminals known. known_more terminals _ _ _ c.in_ok-push_copies.ensures (c.loop-inner.invariant.known terminals known) (c.labels.ensures.known terminals known).suffix;
  made = following_step c.args.graph.now _ _ _ _ _ _ _ c.in-Some.ensures.cases.0 c.in_ok-push_copies.ensures c.labels.ensures.suffix c.loop-inner.invariant.made;
}

pub returns-clause-following : goal.returns-clause-following
returns-clause-following c = following_done c.args.graph.now _ _ _ c.in_default.ensures.cases c.loop-inner.invariant.made

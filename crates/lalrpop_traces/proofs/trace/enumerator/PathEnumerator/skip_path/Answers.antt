use Rattle.lalrpop_traces.proofs.theory.traces.Walks.{standing_bound, refused_less}
use Rattle.lalrpop_traces.proofs.trace.enumerator.PathEnumerator.skip_path.Goals as goal

pub returns-in-Err-clause-falls : goal.returns-in-Err-clause-falls
returns-in-Err-clause-falls c = refused_less c.advance.new.self.stack.items _ _ c.in-Err.ensures.err (standing_bound c.args.self.now c.requires.standing)

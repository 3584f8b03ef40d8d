use Rattle.lalrpop_states.proofs.theory.collapse.Merging.{taken}
use Rattle.lalrpop_tables.proofs.theory.collapse.MergingReductions.{Tokens-more}
use Rattle.lalrpop_tables.proofs.build_lalr.reductions.tokens_of_productions.Goals as goal

pub loop-tokens-preserved : goal.loop-tokens-preserved
loop-tokens-preserved c =
    let h = c.loop-tokens.invariant in
    let pushed = c.in_ok-push.ensures in
    record {
      has = Tokens-more c.loop-tokens.yielded (c.in-Some.tokens, c.in-Some.production) c.loop-tokens.tokens_of c.push.new.self h.has pushed.pushed pushed.others;
      left = taken _ _ c.loop-tokens.yielded _ (c.in-Some.tokens, c.in-Some.production) h.left c.in-Some.ensures.steps.0;
    }

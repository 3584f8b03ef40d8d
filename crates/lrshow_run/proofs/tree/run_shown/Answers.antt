use Rattle.std.proofs.Common.{List, ◌∙◌, subst}
use Rattle.std.proofs.lemmas.Result.{IfOk-weaker}
use Rattle.lalrpop_base.specs.Words.{Limit, HasOutcome, contents}
use Rattle.lalrpop_grammar.specs.declared.repr.TerminalString.{TerminalString}
use Rattle.lrshow_run.specs.Trees.{most_steps}
use Rattle.lrshow_run.proofs.tree.run_shown.Goals as goal

pub returns-in-Err-Limit : goal.returns-in-Err-Limit
returns-in-Err-Limit c =
    let run : HasOutcome (contents c.args.grammar.now.terminals c.args.states.now) c.args.tokens.now most_steps Limit = subst (λ (w : List TerminalString). HasOutcome (contents c.args.grammar.now.terminals c.args.states.now) w most_steps Limit) c.in_ok-copy.ensures (rw c.in-Err-Limit.field-0-is at c.in-Err-Limit.ensures.run) in
    IfOk-weaker c.remarked.result _ _ (λ s out. record {
      outcome = Limit;
      run = run;
      shown = record { ended = out.ended; whole = out.whole; remarked = out.remarked ∙ c.in_ok-format-in-Err-Limit.ensures.ok };
      of_grammar = λ alone. tt;
    }) c.remarked.ensures

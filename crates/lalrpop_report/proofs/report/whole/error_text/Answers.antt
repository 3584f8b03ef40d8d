use Rattle.std.proofs.Common.{◌∙◌, ap, sym, Some}
use Rattle.lalrpop_report.specs.Words.{failure_report, error_report}
use Rattle.lalrpop_report.proofs.report.whole.error_text.Goals as goal

pub returns-in_ok-failure_text-in-Conflicts-clause-text :
    goal.returns-in_ok-failure_text-in-Conflicts-clause-text
returns-in_ok-failure_text-in-Conflicts-clause-text g c =
    let meaning = g.L.Lookahead.meaning in
    let terminals = c.args.terminals.now in
    let error = c.in-Conflicts.error in
    ap (error_report meaning terminals) c.in-Conflicts.is
    ∙ ap Some (sym (c.in_ok-failure_text-in-Conflicts.ensures
    ∙ ap (λ states. failure_report meaning terminals states c.deref-in-Conflicts.result.now) c.deref.ensures.value
    ∙ ap (failure_report meaning terminals error.states.items) c.deref-in-Conflicts.ensures.value))

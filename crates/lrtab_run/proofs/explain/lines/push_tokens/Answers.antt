use Rattle.lalrpop_lr1.specs.Words.{tokens_text, tokens_in}
use Rattle.lalrpop_report.proofs.theory.reports.ReportTexts.{text_after}
use Rattle.lrtab_run.proofs.explain.lines.push_tokens.Goals as goal

pub returns : goal.returns
returns c = text_after c.print.result c.args.text.now c.print.new.out (tokens_text (tokens_in c.args.terminals.now c.args.set.now)) c.if-is_err.ensures.negation c.print.ensures

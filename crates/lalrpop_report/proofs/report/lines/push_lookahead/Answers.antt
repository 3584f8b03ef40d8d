use Rattle.std.proofs.Common.{◌≢◌, [], sym, append_assoc}
use Rattle.std.proofs.lemmas.List.{append-nil}
use Rattle.lalrpop_base.specs.Words.{rising}
use Rattle.lalrpop_report.specs.Words.{tokens_text, tokens_in}
use Rattle.lalrpop_report.proofs.theory.reports.ReportTexts.{some_tokens, some_line, text_after, no_line}
use Rattle.lalrpop_report.proofs.report.lines.push_lookahead.Goals as goal

pub returns-then-not-has_anything_to_print : goal.returns-then-not-has_anything_to_print
returns-then-not-has_anything_to_print g c =
    let set = g.L.Lookahead.meaning c.args.lookahead.now in
    rw (no_line c.args.terminals.now (rising set) c.has_anything_to_print.result c.has_anything_to_print.ensures.1 c.if-not-has_anything_to_print.true) (sym (append-nil _))

pub returns : goal.returns
returns g c =
    let set = g.L.Lookahead.meaning c.args.lookahead.now in
    let tokens = tokens_in c.args.terminals.now set in
    let some : rising set ≢ [] = c.has_anything_to_print.ensures.0 c.if-not-has_anything_to_print.false in
    let line = some_line tokens (some_tokens c.args.terminals.now set some) in
    let printed = text_after c.print.result c.push_str.new.self c.print.new.out (tokens_text tokens) c.if-is_err.ensures.negation c.print.ensures in
    rw line (simp (c.in_ok-push_str-2.ensures.bytes, printed, c.in_ok-push_str.ensures.bytes, append_assoc))

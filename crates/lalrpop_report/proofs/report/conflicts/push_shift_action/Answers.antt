use Rattle.std.proofs.Common.{◌≡◌, ◌∙◌, max, length, append_assoc}
use Rattle.lalrpop_base.specs.Words.{terminal_text, nonterminal_text}
use Rattle.lalrpop_report.proofs.report.conflicts.push_shift_action.Goals as goal

pub returns : goal.returns
returns c =
    let shown : c.as_str.result.now ≡ terminal_text c.args.terminal.now = c.as_str.ensures.value ∙ c.in_ok-shown.ensures.ok in
    let width : c.max-width.result ≡ max (length (terminal_text c.args.terminal.now)) (length (nonterminal_text c.args.production.now.nonterminal)) = cc in
    simp (c.in_ok-write.ensures.bytes, c.in_ok-push_filled.ensures, c.in_ok-push_str-2.ensures.bytes, c.in_ok-push_production.ensures, c.in_ok-push_str.ensures.bytes, shown, width, append_assoc)

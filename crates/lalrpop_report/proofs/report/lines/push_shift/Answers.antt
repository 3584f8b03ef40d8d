use Rattle.std.proofs.Common.{◌≡◌, ◌∙◌, append_assoc}
use Rattle.lalrpop_base.specs.Words.{terminal_text}
use Rattle.lalrpop_report.proofs.report.lines.push_shift.Goals as goal

pub returns : goal.returns
returns c =
    let shown : c.as_str.result.now ≡ terminal_text c.args.terminal.now = c.as_str.ensures.value ∙ c.in_ok-shown.ensures.ok in
    simp (c.in_ok-write.ensures.bytes, c.in_ok-push_filled.ensures, c.in_ok-push_str.ensures.bytes, shown, append_assoc)

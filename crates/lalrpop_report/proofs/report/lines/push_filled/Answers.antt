use Rattle.std.proofs.Common.{◌≡◌, ap, ◌∙◌, arith}
use Rattle.std.specs.Fmt.{styled_text}
use Rattle.lalrpop_report.proofs.theory.reports.ReportPadding.{styled_in_width}
use Rattle.lalrpop_report.proofs.report.lines.push_filled.Goals as goal

pub returns : goal.returns
returns c =
    let shown = c.args.shown.now in
    let same : styled_text c.laid_out.result shown ≡ _ = ap (λ s. styled_text s shown) c.laid_out.ensures ∙ styled_in_width c.args.width shown (omega arith) in
    rw (c.in_ok-write.was, same) at c.write.ensures.bytes

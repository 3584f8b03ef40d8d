use mathlib.Core.Bool.{true≢false}
use Rattle.std.proofs.Common.{sym}
use Rattle.lalrpop_report.proofs.theory.reports.ReportTexts.{no_rising}
use Rattle.lalrpop_report.proofs.report.printer.NilLookaheadPrinter.has_anything_to_print.Goals as goal

pub returns : goal.returns
returns g c = (λ yes. absurd (true≢false (sym yes)), λ some. absurd (some no_rising))

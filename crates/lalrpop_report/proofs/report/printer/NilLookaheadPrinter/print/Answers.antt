use Rattle.std.proofs.Output.{writes_in_calls_nil}
use Rattle.lalrpop_report.proofs.theory.reports.ReportTexts.{no_rising}
use Rattle.lalrpop_report.proofs.report.printer.NilLookaheadPrinter.print.Goals as goal

pub returns : goal.returns
returns g c = rw no_rising (writes_in_calls_nil g.W.Write.write_str_gives c.args._out.now)

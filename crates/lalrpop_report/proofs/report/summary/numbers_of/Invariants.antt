use Rattle.std.proofs.Common.{map, take}
use Rattle.lalrpop_report.specs.Words.{state_number}
use Rattle.lalrpop_report.proofs.theory.reports.ReportNumbers.{HasNumbers}
use Rattle.lalrpop_report.proofs.report.summary.numbers_of.Given as goal

abbrev pub invariant-loop-conflict : goal.invariant-loop-conflict
invariant-loop-conflict g l = HasNumbers l.numbers (map (state_number {L = g.row.L.Denot}) (take l.conflict-index l.conflicts))

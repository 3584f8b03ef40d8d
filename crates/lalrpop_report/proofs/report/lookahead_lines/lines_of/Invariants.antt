use Rattle.std.proofs.Common.{◌≡◌}
use Rattle.lalrpop_report.proofs.report.lookahead_lines.lines_of.Given as goal

abbrev pub invariant-loop-state : goal.invariant-loop-state
invariant-loop-state g l = l.lines ≡ l.terminals

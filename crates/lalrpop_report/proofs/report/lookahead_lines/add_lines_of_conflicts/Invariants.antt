use Rattle.std.proofs.Common.{◌≡◌}
use Rattle.lalrpop_report.proofs.report.lookahead_lines.add_lines_of_conflicts.Given as goal

abbrev pub invariant-loop-conflict : goal.invariant-loop-conflict
invariant-loop-conflict g l = l.lines ≡ l.fn.lines

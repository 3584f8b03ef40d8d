use Rattle.std.proofs.Common.{◌≡◌}
use Rattle.lalrpop_report.proofs.report.lookahead_lines.add_lines_of_items.Given as goal

abbrev pub invariant-loop-item : goal.invariant-loop-item
invariant-loop-item g l = l.lines ≡ l.fn.lines

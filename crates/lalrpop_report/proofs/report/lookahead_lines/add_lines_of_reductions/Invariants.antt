use Rattle.std.proofs.Common.{◌≡◌}
use Rattle.lalrpop_report.proofs.report.lookahead_lines.add_lines_of_reductions.Given as goal

abbrev pub invariant-loop-reduction : goal.invariant-loop-reduction
invariant-loop-reduction g l = l.lines ≡ l.fn.lines

use Rattle.std.proofs.Common.{◌≡◌, ◌++◌, take}
use Rattle.std.specs.List.{flat_map}
use Rattle.lalrpop_report.specs.Words.{reduction_lines}
use Rattle.lalrpop_report.proofs.report.states.push_each_reduction.Given as goal

abbrev pub invariant-loop-reduction : goal.invariant-loop-reduction
invariant-loop-reduction g l =
    l.text ≡ l.fn.text ++ flat_map (reduction_lines g.L.Lookahead.meaning l.lines) (take l.reduction-index l.reductions)

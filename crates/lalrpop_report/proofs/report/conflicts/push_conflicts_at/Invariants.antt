use Rattle.std.proofs.Common.{◌≡◌, ◌++◌, take, slice_get}
use Rattle.std.specs.List.{flat_map}
use Rattle.lalrpop_report.specs.Words.{block_at}
use Rattle.lalrpop_report.proofs.report.conflicts.push_conflicts_at.Given as goal

abbrev pub invariant-loop-place : goal.invariant-loop-place
invariant-loop-place g l =
    l.text ≡ l.fn.text ++ flat_map (λ place. block_at g.L.Lookahead.meaning l.lines (slice_get l.conflicts place)) (take l.place-index l.places)

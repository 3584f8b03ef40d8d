use Rattle.std.proofs.Common.{take}
use Rattle.lalrpop_report.specs.Words.{ArePlacesOf}
use Rattle.lalrpop_report.proofs.report.whole.places_by_state.Given as goal

abbrev pub invariant-loop-place : goal.invariant-loop-place
invariant-loop-place g l =
    ArePlacesOf {L = g.row.L.Denot} l.conflicts (take l.place l.conflicts) l.places

use Rattle.std.proofs.Common.{◌≡◌, ◌++◌, take}
use Rattle.std.specs.List.{flat_map}
use Rattle.lalrpop_report.specs.Words.{next_state}
use Rattle.lalrpop_report.proofs.report.whole.push_states.Given as goal

abbrev pub invariant-loop-state : goal.invariant-loop-state
invariant-loop-state g l =
    l.text ≡ l.fn.text ++ flat_map (next_state g.L.Lookahead.meaning l.lines l.conflicts) (take l.state-index l.states)

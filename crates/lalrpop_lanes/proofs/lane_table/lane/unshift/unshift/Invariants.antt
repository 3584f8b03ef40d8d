use Rattle.lalrpop_state_graph.specs.Words.{sources_left}
use Rattle.lalrpop_lanes.proofs.theory.lanes.Unshifting.{IsUnshifting}
use Rattle.lalrpop_lanes.proofs.lane_table.lane.unshift.unshift.Given as goal

abbrev pub invariant-loop-source : goal.invariant-loop-source
invariant-loop-source g l = IsUnshifting l.automaton l.place l.symbol (sources_left l.source-iterator) (sources_left l.initial.source-iterator) l.initial.table l.table l.initial.walk l.walk

use Rattle.std.proofs.Common.{take}
use Rattle.lalrpop_base.specs.Words.{rules_of}
use Rattle.lalrpop_lanes.proofs.theory.lanes.Unepsilon.{IsFollowing}
use Rattle.lalrpop_lanes.proofs.lane_table.lane.unepsilon.unepsilon.Given as goal

abbrev pub invariant-loop-item : goal.invariant-loop-item
invariant-loop-item g l = IsFollowing (rules_of l.automaton.grammar.now) l.name l.state l.conflict.index (take l.item-index l.item-items) l.initial.table l.table l.initial.walk l.walk

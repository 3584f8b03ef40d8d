use Rattle.std.proofs.Common.{take}
use Rattle.lalrpop_lane_states.specs.lane_states.CopiedNumbers.{AreCopiedByNumber}
use Rattle.lalrpop_lane_states.proofs.lane_table.construct.copied_numbers.copied_numbers.Given as goal

abbrev pub invariant-loop-index : goal.invariant-loop-index
invariant-loop-index l = AreCopiedByNumber l.symbols l.numbered l.originals (take l.index l.states) l.list.items

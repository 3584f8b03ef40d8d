use Rattle.lalrpop_lane_states.proofs.theory.lane_states.CopiedNumbers.{AreAloneTo}
use Rattle.lalrpop_lane_states.proofs.lane_table.construct.copied_numbers.first_is_copied.Given as goal

abbrev pub invariant-loop-number : goal.invariant-loop-number
invariant-loop-number l = AreAloneTo l.originals l.number

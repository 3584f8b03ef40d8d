use Rattle.std.proofs.Common.{◌≡◌, ◌+◌, ◌++◌, drop, length}
use Rattle.lalrpop_lane_states.specs.lane_states.FoundLookaheads.{with_sets}
use Rattle.lalrpop_lane_states.proofs.lane_table.construct.lookaheads.put_sets.Given as goal

abbrev pub invariant-loop-set : goal.invariant-loop-set
invariant-loop-set l = record {
  put : l.given.items ++ with_sets l.set-iterator.rest.items (drop (length l.given.items) l.reductions) ≡ with_sets l.fn.sets.items l.reductions;
  left : length l.given.items + length l.set-iterator.rest.items ≡ length l.reductions;
}

use Rattle.std.proofs.Common.{◌≡◌, ◌++◌}
use Rattle.std.specs.List.{AllZip}
use Rattle.lalrpop_lane_states.specs.Words.{IsPromoted}
use Rattle.lalrpop_lane_states.proofs.lane_table.construct.promote.promote_states.Given as goal

abbrev pub invariant-loop-state : goal.invariant-loop-state
invariant-loop-state l = record {
  promoted : AllZip (IsPromoted l.all) l.yielded l.promoted.items;
  left : l.yielded ++ l.state-iterator.rest.items ≡ l.fn.states.items;
}

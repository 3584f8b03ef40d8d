use Rattle.std.proofs.Common.{◌≡◌, ◌++◌}
use Rattle.std.specs.List.{filter}
use Rattle.lalrpop_base.specs.Words.{AreMoved, fails, stands_first, number_in}
use Rattle.lalrpop_state_graph.proofs.renumber.move_states.Given as goal

abbrev pub invariant-loop-state : goal.invariant-loop-state
invariant-loop-state l = record {
  front : AreMoved (number_in l.numbers) (filter stands_first l.yielded) l.front.items;
  back : AreMoved (number_in l.numbers) (filter (fails stands_first) l.yielded) l.back.items;
  left : l.yielded ++ l.state-iterator.rest.items ≡ l.fn.states.items;
}

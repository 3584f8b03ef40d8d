use Rattle.std.proofs.Common.{◌≡◌, ◌+◌, length}
use Rattle.std.specs.List.{filter}
use Rattle.lalrpop_base.specs.Words.{ArePlaces, rank, fails, stands_first}
use Rattle.lalrpop_state_graph.proofs.renumber.new_numbers.Given as goal

abbrev pub invariant-loop-state : goal.invariant-loop-state
invariant-loop-state l = record {
  front : l.front ≡ rank stands_first l.states l.state-index;
  back : l.back ≡ length (filter stands_first l.states) + rank (fails stands_first) l.states l.state-index;
  places : ArePlaces stands_first l.states l.state-index l.numbers.items;
}

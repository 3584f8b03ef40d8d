use Rattle.std.proofs.Common.{◌≡◌, ◌+◌, ◌++◌, drop, length}
use Rattle.std.specs.List.{flat_map}
use Rattle.table_numbers.specs.Layout.{places_from, state_block}
use Rattle.table_numbers.proofs.layout.push_state_places.Given as goal

abbrev pub invariant-loop-state : goal.invariant-loop-state
invariant-loop-state l = record {
  places : l.out.items ++ places_from state_block l.place (drop l.state-index l.states) ≡ l.fn.out.items ++ places_from state_block l.first l.states;
  end : l.place + length (flat_map state_block (drop l.state-index l.states)) ≡ l.first + length (flat_map state_block l.states);
}

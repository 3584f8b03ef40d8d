use Rattle.std.proofs.Common.{◌≡◌, ◌+◌, ◌++◌, drop, length}
use Rattle.std.specs.List.{flat_map}
use Rattle.table_numbers.specs.Layout.{places_from, set_block}
use Rattle.table_numbers.proofs.layout.push_set_places.Given as goal

abbrev pub invariant-loop-set : goal.invariant-loop-set
invariant-loop-set l = record {
  places : l.out.items ++ places_from set_block l.place (drop l.set-index l.sets) ≡ l.fn.out.items ++ places_from set_block l.first l.sets;
  end : l.place + length (flat_map set_block (drop l.set-index l.sets)) ≡ l.first + length (flat_map set_block l.sets);
}

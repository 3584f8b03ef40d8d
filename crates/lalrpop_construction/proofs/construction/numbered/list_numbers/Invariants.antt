use Rattle.std.proofs.Common.{◌≡◌, map, take}
use Rattle.lalrpop_construction.specs.states.NumberedStates.{item_number}
use Rattle.lalrpop_construction.proofs.construction.numbered.list_numbers.Given as goal

abbrev pub invariant-loop-item : goal.invariant-loop-item
invariant-loop-item g l = l.numbers.items ≡ map item_number (take l.item-index l.list)

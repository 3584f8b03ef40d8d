use Rattle.std.proofs.Common.{◌≡◌, map, take}
use Rattle.lalrpop_base.specs.Words.{dots, bare}
use Rattle.lalrpop_tables.proofs.build_lalr.numbers.bare_items.Given as goal

abbrev pub invariant-loop-item : goal.invariant-loop-item
invariant-loop-item l = l.list ≡ map bare (dots (take l.item-index l.items))

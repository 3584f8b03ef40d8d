use Rattle.std.proofs.Common.{take}
use Rattle.lalrpop_numbers.specs.Words.{AreNumbersBehind}
use Rattle.lalrpop_numbers.proofs.numbers.symbols.numbers_behind.Given as goal

abbrev pub invariant-loop-item : goal.invariant-loop-item
invariant-loop-item l = AreNumbersBehind l.symbols (take l.item-index l.items) l.behind.items

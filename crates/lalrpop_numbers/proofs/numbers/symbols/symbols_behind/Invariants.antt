use Rattle.std.proofs.Common.{take}
use Rattle.lalrpop_numbers.specs.Words.{AreBehindDots}
use Rattle.lalrpop_numbers.proofs.numbers.symbols.symbols_behind.Given as goal

abbrev pub invariant-loop-item : goal.invariant-loop-item
invariant-loop-item l = AreBehindDots (take l.item-index l.items) l.symbols.keys

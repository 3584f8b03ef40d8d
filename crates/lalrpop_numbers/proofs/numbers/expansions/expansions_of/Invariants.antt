use Rattle.std.proofs.Common.{take}
use Rattle.lalrpop_numbers.specs.Words.{AreAllExpansions, lists_of}
use Rattle.lalrpop_numbers.proofs.numbers.expansions.expansions_of.Given as goal

abbrev pub invariant-loop-number : goal.invariant-loop-number
invariant-loop-number l = AreAllExpansions l.symbols (take l.number l.items) (lists_of l.expansions.items)

use Rattle.std.proofs.Common.{◌≡◌, ◌++◌}
use Rattle.lalrpop_numbers.proofs.numbers.symbols.list_set.Given as goal

abbrev pub invariant-loop-symbol : goal.invariant-loop-symbol
invariant-loop-symbol l = l.symbols.items ++ l.symbol-iterator ≡ l.fn.set.keys

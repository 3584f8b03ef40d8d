use Rattle.std.proofs.Common.{◌≡◌, take}
use Rattle.canonical_by_number.specs.Edges.{bits_of}
use Rattle.canonical_by_number.proofs.conflicts.bits_of.Given as goal

abbrev pub invariant-loop-symbol : goal.invariant-loop-symbol
invariant-loop-symbol l = l.bits.items ≡ bits_of l.terminals (take l.symbol-index l.numbers.symbols.items)

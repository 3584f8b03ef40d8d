use Rattle.std.proofs.Common.{◌≡◌, ◌++◌, take}
use Rattle.lalrpop_inline.proofs.inline.choices.push_part.Given as goal

abbrev pub invariant-loop-symbol : goal.invariant-loop-symbol
invariant-loop-symbol l = l.symbols ≡ l.initial.symbols ++ take l.symbol-index l.symbol-items

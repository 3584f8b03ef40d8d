use Rattle.std.proofs.Common.{◌≡◌, ◌++◌, string_bytes, take}
use Rattle.std.specs.List.{flat_map}
use Rattle.symbol_texts.specs.Comments.{spaced_symbol}
use Rattle.symbol_texts.proofs.comments.push_symbols.Given as goal

abbrev pub invariant-loop-symbol : goal.invariant-loop-symbol
invariant-loop-symbol l = string_bytes l.text ≡ string_bytes l.fn.text ++ flat_map spaced_symbol (take l.symbol-index l.symbols)

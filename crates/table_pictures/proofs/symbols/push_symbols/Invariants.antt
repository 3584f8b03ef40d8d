use Rattle.std.proofs.Common.{◌≡◌, ◌++◌, string_bytes, take}
use Rattle.std.specs.List.{flat_map}
use Rattle.table_pictures.specs.Symbols.{symbol_xml}
use Rattle.table_pictures.proofs.symbols.push_symbols.Given as goal

abbrev pub invariant-loop-symbol : goal.invariant-loop-symbol
invariant-loop-symbol l = string_bytes l.text ≡ string_bytes l.fn.text ++ flat_map symbol_xml (take l.symbol-index l.symbols)

use Rattle.std.proofs.Common.{◌≡◌, map, take}
use Rattle.symbol_texts.specs.Names.{symbol_name}
use Rattle.symbol_texts.specs.Texts.{texts_of}
use Rattle.symbol_texts.proofs.names.symbol_bases.Given as goal

abbrev pub invariant-loop-symbol : goal.invariant-loop-symbol
invariant-loop-symbol l = texts_of l.names.items ≡ map (symbol_name l.style) (take l.symbol-index (texts_of l.symbols))

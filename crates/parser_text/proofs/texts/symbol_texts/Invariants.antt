use Rattle.std.proofs.Common.{◌≡◌, map, take}
use Rattle.parser_text.specs.Texts.{symbol_parts, symbol_words}
use Rattle.parser_text.proofs.texts.symbol_texts.Given as goal

abbrev pub invariant-loop-symbol : goal.invariant-loop-symbol
invariant-loop-symbol l = map symbol_parts l.texts.items ≡ map symbol_words (take l.symbol-index l.symbols)

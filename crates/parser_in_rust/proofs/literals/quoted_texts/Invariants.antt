use Rattle.std.proofs.Common.{◌≡◌, map, take}
use Rattle.parser_in_rust.specs.Literals.{quoted}
use Rattle.symbol_texts.specs.Texts.{texts_of}
use Rattle.parser_in_rust.proofs.literals.quoted_texts.Given as goal

abbrev pub invariant-loop-text : goal.invariant-loop-text
invariant-loop-text l = texts_of l.literals.items ≡ map quoted (take l.text-index (texts_of l.texts))

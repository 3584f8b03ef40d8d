use Rattle.std.proofs.Common.{◌≡◌, map, take}
use Rattle.parser_text.specs.Texts.{name_word}
use Rattle.symbol_texts.specs.Texts.{texts_of}
use Rattle.parser_text.proofs.texts.nonterminal_texts.Given as goal

abbrev pub invariant-loop-nonterminal : goal.invariant-loop-nonterminal
invariant-loop-nonterminal l = texts_of l.texts.items ≡ map name_word (take l.nonterminal-index l.nonterminals)

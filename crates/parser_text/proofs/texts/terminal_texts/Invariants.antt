use Rattle.std.proofs.Common.{◌≡◌, map, take}
use Rattle.parser_text.specs.Texts.{terminal_word}
use Rattle.symbol_texts.specs.Texts.{texts_of}
use Rattle.parser_text.proofs.texts.terminal_texts.Given as goal

abbrev pub invariant-loop-terminal : goal.invariant-loop-terminal
invariant-loop-terminal l = texts_of l.texts.items ≡ map terminal_word (take l.terminal-index l.terminals)

use Rattle.std.proofs.Common.{◌≡◌, ◌++◌, drop, string_bytes}
use Rattle.lalrpop_grammar.specs.grammars.Names.{symbols_text}
use Rattle.conflict_causes.proofs.text.lines.push_symbols.Given as goal

abbrev pub invariant-loop-symbol : goal.invariant-loop-symbol
invariant-loop-symbol l = string_bytes l.text ++ symbols_text (drop l.symbol-index l.symbols) ≡ string_bytes l.fn.text ++ symbols_text l.symbols

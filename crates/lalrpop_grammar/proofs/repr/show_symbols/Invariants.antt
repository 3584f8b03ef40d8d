use Rattle.std.proofs.Common.{take}
use Rattle.std.specs.Fmt.{HasWritten, IsPlainFormatter}
use Rattle.lalrpop_grammar.specs.grammars.Names.{symbols_text}
use Rattle.lalrpop_grammar.proofs.repr.show_symbols.Given as goal

-- the symbols so far are written
abbrev pub invariant-loop-symbol : goal.invariant-loop-symbol
invariant-loop-symbol g l =
    IsPlainFormatter l.fn.f → HasWritten g.W.Write.write_str_gives l.fn.f (symbols_text (take l.symbol-index l.symbols)) l.f

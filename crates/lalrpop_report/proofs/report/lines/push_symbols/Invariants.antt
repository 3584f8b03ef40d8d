use Rattle.std.proofs.Common.{◌≡◌, ◌++◌, string_bytes, take}
use Rattle.lalrpop_base.specs.Words.{symbols_text}
use Rattle.lalrpop_report.proofs.report.lines.push_symbols.Given as goal

abbrev pub invariant-loop-symbol : goal.invariant-loop-symbol
invariant-loop-symbol l = string_bytes l.text ≡ string_bytes l.fn.text ++ symbols_text (take l.symbol-index l.symbols)

use Rattle.std.proofs.Common.{◌≡◌, ◌++◌, drop, map}
use Rattle.lalrpop_traces.specs.declared.trace.example.ExampleSymbol.TheVariants.{Symbol}
use Rattle.lalrpop_traces.proofs.trace.spelling.push_symbols.Given as goal

abbrev pub invariant-loop-symbol : goal.invariant-loop-symbol
invariant-loop-symbol l = l.symbols.items ++ map Symbol (drop l.symbol-index l.list) ≡ l.initial.symbols.items ++ map Symbol l.list

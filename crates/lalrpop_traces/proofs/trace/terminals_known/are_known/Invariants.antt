use Rattle.std.proofs.Common.{take}
use Rattle.lalrpop_base.specs.Words.{HasKnownTerminals}
use Rattle.lalrpop_traces.proofs.trace.terminals_known.are_known.Given as goal

abbrev pub invariant-loop-symbol : goal.invariant-loop-symbol
invariant-loop-symbol l = HasKnownTerminals l.terminals (take l.symbol-index l.symbols)

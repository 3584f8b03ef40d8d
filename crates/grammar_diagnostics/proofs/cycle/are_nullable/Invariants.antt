use Rattle.std.proofs.Common.{take}
use Rattle.lalrpop_grammar.specs.Words.{IsNullable}
use Rattle.grammar_diagnostics.proofs.cycle.are_nullable.Given as goal

-- the symbols so far are nullable
abbrev pub invariant-loop-symbol : goal.invariant-loop-symbol
invariant-loop-symbol l = IsNullable l.sets.productions (take l.symbol-index l.symbols)

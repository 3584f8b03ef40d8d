use Rattle.std.proofs.Common.{◌↔◌, drop}
use Rattle.lalrpop_base.specs.Words.{IsNullable}
use Rattle.lalrpop_traces.proofs.trace.nullable.is_nullable.Given as goal

abbrev pub invariant-loop-symbol : goal.invariant-loop-symbol
invariant-loop-symbol l = IsNullable l.first_sets.productions (drop l.symbol-index l.symbols) ↔ IsNullable l.first_sets.productions l.symbols

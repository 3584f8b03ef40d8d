use Rattle.lalrpop_useful.specs.Words.{IsAlone}
use Rattle.grammar_diagnostics.specs.CyclePaths.{AddsSuch, names_now}
use Rattle.grammar_diagnostics.proofs.cycle.push_places.Given as goal

-- the names that were added are alone in the symbols
abbrev pub invariant-loop-place : goal.invariant-loop-place
invariant-loop-place l = AddsSuch (IsAlone l.sets.productions l.symbols) (names_now l.fn.names.items) (names_now l.names.items)

use Rattle.std.proofs.Common.{◌≡◌, ℕ, ◌<◌}
use Rattle.std.specs.Prelude.{slice_get, Some}
use Rattle.lalrpop_collections.specs.Words.{DifferBelow}
use Rattle.lalrpop_grammar.specs.Words.{IsWellFormedProduction}
use Rattle.lalrpop_grammar.proofs.Types.{Production}
use Rattle.lalrpop_grammar.proofs.repr.grammar.is_well_formed_entry.Given as goal

abbrev pub invariant-loop-place : goal.invariant-loop-place
invariant-loop-place l = record {
  each : (k : ℕ) (p : Production) → k < l.place → slice_get l.productions k ≡ Some p → IsWellFormedProduction l.terminals l.actions l.name p;
  differ : DifferBelow l.place l.productions;
}

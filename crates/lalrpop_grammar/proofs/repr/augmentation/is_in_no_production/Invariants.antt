use Rattle.std.proofs.Common.{◌≡◌, ℕ, ◌<◌, Contains}
use Rattle.std.specs.Prelude.{slice_get, Some}
use Rattle.lalrpop_grammar.proofs.Types.{Production}
use Rattle.lalrpop_grammar.specs.declared.repr.Symbol.TheVariants.{Nonterminal}
use Rattle.lalrpop_grammar.proofs.repr.augmentation.is_in_no_production.Given as goal

abbrev pub invariant-loop-production : goal.invariant-loop-production
invariant-loop-production l = (k : ℕ) (p : Production) → k < l.production-index → slice_get l.productions k ≡ Some p → Contains p.symbols (Nonterminal l.name) → ⊥

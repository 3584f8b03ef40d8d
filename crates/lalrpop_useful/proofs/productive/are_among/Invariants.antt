use Rattle.std.proofs.Common.{◌≡◌, ℕ, ◌<◌, Contains}
use Rattle.std.specs.Prelude.{slice_get, Some}
use Rattle.lalrpop_useful.proofs.Types.{NonterminalString}
use Rattle.lalrpop_grammar.specs.declared.repr.Symbol.TheVariants.{Nonterminal}
use Rattle.lalrpop_useful.proofs.productive.are_among.Given as goal

abbrev pub invariant-loop-symbol : goal.invariant-loop-symbol
invariant-loop-symbol l = (k : ℕ) (a : NonterminalString) → k < l.symbol-index → slice_get l.symbols k ≡ Some (Nonterminal a) → Contains l.names.keys a

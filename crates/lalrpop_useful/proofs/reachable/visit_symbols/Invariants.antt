use Rattle.std.proofs.Common.{Contains, take}
use Rattle.lalrpop_collections.specs.Words.{Visits}
use Rattle.lalrpop_grammar.specs.declared.repr.Symbol.TheVariants.{Nonterminal}
use Rattle.lalrpop_useful.proofs.reachable.visit_symbols.Given as goal

abbrev pub invariant-loop-symbol : goal.invariant-loop-symbol
invariant-loop-symbol l = Visits (λ a. Contains (take l.symbol-index l.symbols) (Nonterminal a)) l.fn.walk l.walk

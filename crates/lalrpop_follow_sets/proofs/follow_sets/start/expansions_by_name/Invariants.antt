use Rattle.std.proofs.Common.{take}
use Rattle.lalrpop_grammar.specs.declared.repr.Symbol.TheVariants.{Nonterminal}
use Rattle.lalrpop_base.specs.Words.{AreExpansions}
use Rattle.lalrpop_follow_sets.proofs.follow_sets.start.expansions_by_name.Given as goal

abbrev pub invariant-loop-number : goal.invariant-loop-number
invariant-loop-number l = AreExpansions (take l.number l.numbers.items.items) (Nonterminal l.name) l.expansions.items

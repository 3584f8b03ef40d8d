-- The invariant of a construction.
use Rattle.std.specs.Prelude.{◌≡◌}
use Rattle.lalrpop_grammar.specs.grammars.Tokens.{FitsTokens}
use Rattle.lalrpop_grammar.specs.grammars.WellFormed.{IsWellFormed, Rules, rules_of}
use Rattle.lalrpop_collections.specs.lists.Bits.{Bits}
use Rattle.lalrpop_grammar.specs.declared.repr.grammar.Grammar.{Grammar}
use Rattle.lalrpop_states.specs.closures.Closing.{AreOwn}
use Rattle.lalrpop_numbers.specs.numbers.Numbers.{AreNumbers}
use Rattle.lalrpop_numbers.specs.declared.numbers.Numbers.{Numbers}

-- the grammar is well-formed, and each production is found by its nonterminal;
-- the FIRST sets and the numbers are those of the grammar;
-- the lookahead holds bits of its tokens alone
pub record IsReadyToBuild (g : Grammar) (first_sets : Rules) (numbers : Numbers) (lookahead : Bits) : Type 0 where
  pub well_formed : IsWellFormed g
  pub own : AreOwn g
  pub firsts : first_sets ≡ rules_of g
  pub numbered : AreNumbers (rules_of g) numbers
  pub fits : FitsTokens g.terminals lookahead

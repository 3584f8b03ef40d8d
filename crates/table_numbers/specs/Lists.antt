-- The lists of a grammar, in which numbers are places.
use Rattle.std.specs.Prelude.{◌≡◌, ℕ, List, length, map, slice_get, Option, Some}
use Rattle.lalrpop_base.specs.Words.{productions}
use Rattle.lalrpop_grammar.specs.declared.repr.NonterminalString.{NonterminalString}
use Rattle.lalrpop_grammar.specs.declared.repr.Production.{Production}
use Rattle.lalrpop_grammar.specs.declared.repr.TerminalString.{TerminalString}
use Rattle.lalrpop_grammar.specs.declared.repr.grammar.Grammar.{Grammar}
use Rattle.lalrpop_grammar.specs.declared.repr.grammar.NonterminalData.{NonterminalData}
use Rattle.table_numbers.specs.declared.tables.NumberedTables.{NumberedTables}

-- what numbers mean: the terminals, the nonterminals and the productions, each at its number
pub record Lists : Type 0 where
  pub terminals : List TerminalString
  pub nonterminals : List NonterminalString
  pub productions : List Production

-- the nonterminals of a grammar, in the order of their names
abbrev pub nonterminals_of : Grammar → List NonterminalString
nonterminals_of g = map (λ (e : NonterminalString × NonterminalData). e.0) g.nonterminals.entries

-- the lists of a grammar: terminals in the order of their bits, nonterminals in that of their names,
-- and productions in the order of their nonterminals
abbrev pub lists_of : Grammar → Lists
lists_of g = record { terminals = g.terminals; nonterminals = nonterminals_of g; productions = productions g }

-- pairs, with what a list has at each first number in place of the number
abbrev pub named : {A : Type 0} → List A → List (ℕ × ℕ) → List (Option A × ℕ)
named xs pairs = map (λ (p : ℕ × ℕ). (slice_get xs p.0, p.1)) pairs

-- the nonterminal of a production, and the length of its right side
abbrev pub side_of : Production → Option NonterminalString × ℕ
side_of p = (Some p.nonterminal, length p.symbols)

-- the tables are about these lists: they have as many terminals and nonterminals, and they have the
-- nonterminal of each production and the length of its right side
pub record AreAbout (lists : Lists) (t : NumberedTables) : Type 0 where
  pub terminals : t.terminals ≡ length lists.terminals
  pub nonterminals : t.nonterminals ≡ length lists.nonterminals
  pub productions : named lists.nonterminals t.productions ≡ map side_of lists.productions

-- The premises of the clauses of `any_start_parser`.
use Rattle.std.specs.Prelude.{ℕ, List}
use Rattle.lalrpop_base.specs.Words.{AreFaithful, Contents, IsAugmented}
use Rattle.lalrpop_grammar.specs.declared.repr.NonterminalString.{NonterminalString}
use Rattle.lalrpop_grammar.specs.declared.repr.Production.{Production}
use Rattle.parse_tables.specs.Tables.{IsTableOf}
use Rattle.parse_tables.specs.declared.table.ParseTable.{ParseTable}
use Rattle.any_start_parser.specs.Words.{IsOnlyOf}

-- the premises are met by some grammar: the table is that of states which are faithful to its
-- augmented grammar, and the number is that of the only production of the new start symbol
pub record ArePremisesMet (table : ParseTable) (number : ℕ) : Type 0 where
  pub old : List Production
  pub new : List Production
  pub old_start : NonterminalString
  pub new_start : NonterminalString
  pub augmented : IsAugmented old new old_start new_start
  pub states : ℕ → Contents
  pub faithful : AreFaithful new new_start states
  pub of_states : IsTableOf table states
  pub only : IsOnlyOf table.productions new_start number

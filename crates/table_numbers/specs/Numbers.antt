-- Of which states a list of numbers are the tables.
use Rattle.std.specs.Prelude.{◌≡◌, ℕ, List, []}
use Rattle.lalrpop_base.specs.Words.{AreFaithful, Contents}
use Rattle.lalrpop_grammar.specs.declared.repr.NonterminalString.{NonterminalString}
use Rattle.lalrpop_grammar.specs.declared.repr.Production.{Production}
use Rattle.table_numbers.specs.Contents.{numbered_contents}
use Rattle.table_numbers.specs.Layout.{numbers_of}
use Rattle.table_numbers.specs.Lists.{AreAbout, Lists}
use Rattle.table_numbers.specs.declared.tables.NumberedTables.{NumberedTables}

-- contents, with other items
abbrev pub with_items : List (Production × ℕ) → Contents → Contents
with_items items c = record { items = items; shift = c.shift; goto = c.goto; reductions = c.reductions }

-- the tables by number are about the lists, and each state has the contents of the state with its
-- number, but for the items
pub record AreTablesOf (lists : Lists) (t : NumberedTables) (states : ℕ → Contents) : Type 0 where
  pub about : AreAbout lists t
  pub same : (n : ℕ) → numbered_contents lists t n ≡ with_items [] (states n)

-- the numbers are those of tables of the states
pub record AreNumbersOf (lists : Lists) (numbers : List ℕ) (states : ℕ → Contents) : Type 0 where
  pub tables : NumberedTables
  pub laid_out : numbers ≡ numbers_of tables
  pub right : AreTablesOf lists tables states

-- the numbers are faithful tables of the productions of the lists, if each state is given its items
pub record AreFaithfulNumbers (lists : Lists) (start : NonterminalString) (numbers : List ℕ) : Type 0 where
  pub tables : NumberedTables
  pub laid_out : numbers ≡ numbers_of tables
  pub about : AreAbout lists tables
  pub items : ℕ → List (Production × ℕ)
  pub faithful : AreFaithful lists.productions start (λ n. with_items (items n) (numbered_contents lists tables n))

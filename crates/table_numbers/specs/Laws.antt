-- Theorems on numbers of tables, which the functions of `laws.rt` state.
use Rattle.std.specs.Prelude.{◌≡◌, ℕ, List}
use Rattle.lalrpop_base.specs.Words.{AreFaithful, Bits, Contents, contents}
use Rattle.lalrpop_grammar.specs.declared.repr.NonterminalString.{NonterminalString}
use Rattle.lalrpop_states.specs.declared.lr1_core.state.State.{State}
use Rattle.table_numbers.specs.Items.{AreFaithfulWithItems, AreWholeNumbersOf}
use Rattle.table_numbers.specs.Layout.{numbers_of}
use Rattle.table_numbers.specs.Lists.{Lists}
use Rattle.table_numbers.specs.Numbers.{AreFaithfulNumbers, AreNumbersOf}
use Rattle.table_numbers.specs.declared.tables.NumberedTables.{NumberedTables}

-- numbers are those of one tables at most
abbrev pub OneTables : Type 0
OneTables = (t u : NumberedTables) → numbers_of t ≡ numbers_of u → t ≡ u

-- numbers of faithful states are faithful
abbrev pub FaithfulNumbers : Type 0
FaithfulNumbers = (lists : Lists) (numbers : List ℕ) (states : ℕ → Contents) (start : NonterminalString) → AreNumbersOf lists numbers states → AreFaithful lists.productions start states → AreFaithfulNumbers lists start numbers

-- numbers of faithful states with their items are faithful with the items that they list
abbrev pub WholeNumbers : Type 0
WholeNumbers = (lists : Lists) (numbers : List ℕ) (states : List (State Bits)) (start : NonterminalString) → AreWholeNumbersOf lists numbers states → AreFaithful lists.productions start (contents lists.terminals states) → AreFaithfulWithItems lists start numbers

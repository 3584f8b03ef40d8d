-- The tokens that may come next: those with which what was read is a beginning, and the end of the
-- input after a sentence.
use Rattle.std.specs.Prelude.{◌≡◌, ◌↔◌, ◌≤◌, ℕ, Bool, true, List, ◌++◌, length}
use Rattle.lalrpop_base.specs.Words.{Bits, Configuration, Contents, IsBitOf, IsRightNext, Reaches, begin, has, next_token}
use Rattle.lalrpop_grammar.specs.declared.repr.TerminalString.{TerminalString}
use Rattle.lalrpop_parser.specs.Words.{ForEachGrammar}
use Rattle.parse_tables.specs.Tables.{IsTableOf}
use Rattle.parse_tables.specs.declared.table.ParseTable.{ParseTable}
use Rattle.table_parser.specs.Lists.{AreTerminals}
use Rattle.table_parser.specs.Machines.{IsAt}
use Rattle.table_parser.specs.declared.machine.Machine.{Machine}

-- the machine has read a list of terminals: whatever comes after them, the run gets to a
-- configuration that the machine is at, with only that left
abbrev pub HasReadList : Machine → List TerminalString → Type 0
HasReadList m w = (states : ℕ → Contents) → IsTableOf m.table.now states → (rest : List TerminalString) → (n : ℕ) × (c : Configuration) × Reaches states n (begin (w ++ rest)) c × IsAt m c × (c.rest ≡ rest)

-- it is said of the token with a bit whether it may come after a list. If it is the next token of
-- some rest, it is right exactly if that is said, for each grammar to which the states are faithful
abbrev pub MayComeAfter : ParseTable → List TerminalString → ℕ → Bool → Type 0
MayComeAfter table w bit may = (states : ℕ → Contents) → IsTableOf table states → ForEachGrammar states (λ g start. (rest : List TerminalString) → IsBitOf table.terminals (next_token rest) bit → (may ≡ true) ↔ IsRightNext g start w rest)

-- the same, for the table of a machine
abbrev pub MayFollow : Machine → List TerminalString → ℕ → Bool → Type 0
MayFollow m w bit may = MayComeAfter m.table.now w bit may

-- a set has exactly the tokens that may come after the list that a machine has read
abbrev pub AreExpected : Machine → List TerminalString → Bits → Type 0
AreExpected m w tokens = (bit : ℕ) → MayFollow m w bit (has tokens bit)

-- a set has exactly the tokens that may come after the terminals with these bits
pub record AreExpectedAfter (table : ParseTable) (bits : List ℕ) (tokens : Bits) : Type 0 where
  pub list : List TerminalString
  pub named : AreTerminals table.terminals bits list
  pub exact : (bit : ℕ) → MayComeAfter table list bit (has tokens bit)
  pub within : (bit : ℕ) → has tokens bit ≡ true → bit ≤ length table.terminals

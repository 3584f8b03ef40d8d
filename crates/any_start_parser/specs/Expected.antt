-- The tokens that may come next, for a start symbol that may be on a right side.
use Rattle.std.specs.Prelude.{◌≡◌, ◌↔◌, ◌≤◌, ℕ, Bool, true, List, length}
use Rattle.lalrpop_base.specs.Words.{Bits, Contents, IsBitOf, IsRightNext, has, next_token}
use Rattle.lalrpop_grammar.specs.declared.repr.TerminalString.{TerminalString}
use Rattle.parse_tables.specs.Tables.{IsTableOf}
use Rattle.parse_tables.specs.declared.table.ParseTable.{ParseTable}
use Rattle.table_parser.specs.Words.{AreTerminals}
use Rattle.any_start_parser.specs.Augmented.{ForEachAugmented}

-- it is said of the token with a bit whether it may come after a list. If it is the next token of
-- some rest, it is right exactly if that is said, for each grammar to whose augmented grammar the
-- states are faithful
abbrev pub MayComeFromAny : ParseTable → List TerminalString → ℕ → Bool → Type 0
MayComeFromAny table w bit may = (states : ℕ → Contents) → IsTableOf table states → ForEachAugmented states (λ g start f. (rest : List TerminalString) → IsBitOf table.terminals (next_token rest) bit → (may ≡ true) ↔ IsRightNext g start w rest)

-- a set has exactly the tokens that may come after the terminals with these bits
pub record AreExpectedFromAny (table : ParseTable) (bits : List ℕ) (tokens : Bits) : Type 0 where
  pub list : List TerminalString
  pub named : AreTerminals table.terminals bits list
  pub exact : (bit : ℕ) → MayComeFromAny table list bit (has tokens bit)
  pub within : (bit : ℕ) → has tokens bit ≡ true → bit ≤ length table.terminals

-- The rows of a parse table t, as numbers. The productions and nonterminals are numbered as those of
-- another table, which lists them.
use Rattle.std.specs.Prelude.{◌≡◌, ◌≢◌, ℕ, ◌+◌, ◌<◌, List, length, slice_get, slice_index, Option, None, Some}
use Rattle.std.specs.declared.alloc.Global.{Global}
use Rattle.std.specs.declared.vec.Vec.{Vec}
use Rattle.lalrpop_base.specs.Words.{CanStandNext, Contents, IsBitOf, action_on}
use Rattle.lalrpop_grammar.specs.declared.lookahead.token.Token.{Token}
use Rattle.lalrpop_grammar.specs.declared.repr.NonterminalString.{NonterminalString}
use Rattle.packed_tables.specs.Packed.{row_at}
use Rattle.parse_tables.specs.Codes.{entry_of}
use Rattle.parse_tables.specs.Tables.{IsTableOf}
use Rattle.parse_tables.specs.declared.table.ParseTable.{ParseTable}
use Rattle.parser_text.specs.Hidden.{shown_entry}

-- a number is that of the action of a state on the token with a bit, whatever states the table has
abbrev pub IsCodeOf : Option NonterminalString → (listed t : ParseTable) → ℕ → ℕ → ℕ → Type 0
IsCodeOf hidden listed t state bit code = (states : ℕ → Contents) → IsTableOf t states → (token : Token) → CanStandNext token → IsBitOf t.terminals token bit → entry_of listed.productions code ≡ shown_entry hidden (action_on (states state) token)

-- a row has the number of the action of a state on each token
pub record IsActionRowOf (hidden : Option NonterminalString) (listed t : ParseTable) (state : ℕ) (row : List ℕ) : Type 0 where
  pub long : length row ≡ length t.terminals + 1
  pub each : (bit : ℕ) → bit < length row → IsCodeOf hidden listed t state bit (slice_index row bit)

-- each row has the numbers of the actions of the state with its number
abbrev pub HaveActionRows : Option NonterminalString → (listed t : ParseTable) → List (Vec ℕ Global) → Type 0
HaveActionRows hidden listed t rows = (state : ℕ) → state < length rows → IsActionRowOf hidden listed t state (row_at rows state)

-- the number of a target, which is 0 if there is none
abbrev pub target_number : Option ℕ → ℕ
target_number None = 0
target_number (Some target) = target

-- a number is that of the goto of a state on the nonterminal with a number, and a goto does not
-- lead to state 0
pub record IsTargetOf (listed t : ParseTable) (state nonterminal target : ℕ) : Type 0 where
  pub is : (states : ℕ → Contents) → IsTableOf t states → (name : NonterminalString) → slice_get listed.nonterminals nonterminal ≡ Some name → target ≡ target_number ((states state).goto name)
  pub some : (states : ℕ → Contents) → IsTableOf t states → (name : NonterminalString) → slice_get listed.nonterminals nonterminal ≡ Some name → (states state).goto name ≢ Some 0

-- a row has the number of the goto of a state on each nonterminal
pub record IsGotoRowOf (listed t : ParseTable) (state : ℕ) (row : List ℕ) : Type 0 where
  pub long : length row ≡ length listed.nonterminals
  pub each : (nonterminal : ℕ) → nonterminal < length row → IsTargetOf listed t state nonterminal (slice_index row nonterminal)

-- each row has the numbers of the gotos of the state with its number
abbrev pub HaveGotoRows : (listed t : ParseTable) → List (Vec ℕ Global) → Type 0
HaveGotoRows listed t rows = (state : ℕ) → state < length rows → IsGotoRowOf listed t state (row_at rows state)

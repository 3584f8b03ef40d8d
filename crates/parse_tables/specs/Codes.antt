-- The numbers in the cells of a parse table.
use Rattle.std.specs.Prelude.{◌≡◌, ℕ, ◌+◌, ◌-◌, ◌==◌, cond, nat_lt, List, length, slice_get, slice_index, Option, Some, None, option_map}
use Rattle.lalrpop_base.specs.Words.{CanStandNext, Contents, IsBitOf, ReduceBy, ShiftTo, TableEntry, action_on}
use Rattle.lalrpop_grammar.specs.declared.lookahead.token.Token.{Token}
use Rattle.lalrpop_grammar.specs.declared.repr.NonterminalString.{NonterminalString}
use Rattle.lalrpop_grammar.specs.declared.repr.Production.{Production}
use Rattle.lalrpop_grammar.specs.declared.repr.TerminalString.{TerminalString}

-- the reduction that a number means: none for 0, and otherwise by the production before it
abbrev pub reduction_entry : List Production → ℕ → Option TableEntry
reduction_entry productions code = cond (code == 0) None (option_map ReduceBy (slice_get productions (code - 1)))

-- the entry that the number in a cell means: none for 0, then a reduction by each production, and
-- then a shift to each state
abbrev pub entry_of : List Production → ℕ → Option TableEntry
entry_of productions code = cond (nat_lt (length productions) code) (Some (ShiftTo (code - length productions - 1))) (reduction_entry productions code)

-- the number for a target, if there is one: the target after a base, and otherwise 0
abbrev pub target_code : ℕ → Option ℕ → ℕ
target_code base None = 0
target_code base (Some target) = base + target

-- the target that a number means: none for 0, and otherwise the target before it
abbrev pub target_of : ℕ → Option ℕ
target_of code = cond (code == 0) None (Some (code - 1))

-- the number of the nonterminal of each production, and the length of its right side
abbrev pub AreSides : List NonterminalString → List Production → List (ℕ × ℕ) → Type 0
AreSides names productions sides = (k : ℕ) (p : Production) (side : ℕ × ℕ) → slice_get productions k ≡ Some p → slice_get sides k ≡ Some side → (slice_get names side.0 ≡ Some p.nonterminal) × (side.1 ≡ length p.symbols)

-- a row has the action of a state on each token that can be next
pub record IsActionRow (terminals : List TerminalString) (productions : List Production) (state : Contents) (row : List ℕ) : Type 0 where
  pub long : length row ≡ length terminals + 1
  pub each : (bit : ℕ) (token : Token) → CanStandNext token → IsBitOf terminals token bit → entry_of productions (slice_index row bit) ≡ action_on state token

-- a row has the goto of a state on each nonterminal
pub record IsGotoRow (names : List NonterminalString) (goto : NonterminalString → Option ℕ) (row : List ℕ) : Type 0 where
  pub long : length row ≡ length names
  pub each : (number : ℕ) (name : NonterminalString) → slice_get names number ≡ Some name → target_of (slice_index row number) ≡ goto name

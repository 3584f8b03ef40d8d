-- Rows of states, while they are added one after the other.
use Rattle.std.proofs.Common.{◌≡◌, ⊎_elim, ℕ, ◌+◌, ◌<◌, ◌≤◌, List, [], length, slice_get, slice_index, Option, None, Some, refl, sym, ◌∙◌, ap, subst, arith}
use Rattle.std.proofs.lemmas.Bool.{cases_lt}
use Rattle.std.proofs.lemmas.Option.{slice_get_cases, slice_get_past, slice_get_within}
use Rattle.lalrpop_base.specs.Words.{Bits, CanStandNext, IsBitOf, action_on, contents, contents_at, contents_of, holds_token, no_contents}
use Rattle.lalrpop_states.specs.declared.lr1_core.state.State.{State}
use Rattle.lalrpop_grammar.specs.declared.lookahead.token.Token.{Token}
use Rattle.lalrpop_grammar.specs.declared.lookahead.token.Token.TheVariants.{Eof, Error, Terminal}
use Rattle.lalrpop_grammar.specs.declared.repr.NonterminalString.{NonterminalString}
use Rattle.lalrpop_grammar.specs.declared.repr.Production.{Production}
use Rattle.lalrpop_grammar.specs.declared.repr.TerminalString.{TerminalString}
use Rattle.parse_tables.specs.Cells.{number_in}
use Rattle.parse_tables.specs.Codes.{IsActionRow, IsGotoRow, entry_of, target_of}
use Rattle.parse_tables.specs.Rows.{AddsRow, number_at, row_count}
use Rattle.parse_tables.specs.StateRows.{HaveActions, HaveGotos}
use Rattle.parse_tables.specs.declared.rows.Rows.{Rows}
use Rattle.parse_tables.proofs.ActionRows.{bit_within, no_entry}

-- the numbers in the rows of the first states are right
abbrev pub RightBelow : ℕ → List (State Bits) → (State Bits → ℕ → ℕ → Type 0) → Rows → ℕ → Type 0
RightBelow width states IsRight rows n = (s column : ℕ) (state : State Bits) → s < n → column < width → slice_get states s ≡ Some state → IsRight state column (number_at rows s column)

-- a row past the end has no number
past : (rows : Rows) (s column : ℕ) → row_count rows ≤ s → number_at rows s column ≡ 0
past rows s column l = ap (λ o. number_in rows.cells.items o column) (slice_get_past rows.rows.items s l)

module _ (width : ℕ) (states : List (State Bits)) (IsRight : State Bits → ℕ → ℕ → Type 0) where
  -- the row of one more state was added
  pub next_right : (old new : Rows) (row : List ℕ) (n : ℕ) (state : State Bits) → row_count old ≡ n → AddsRow old new row → length row ≡ width → slice_get states n ≡ Some state → ((column : ℕ) → column < width → IsRight state column (slice_index row column)) →
      RightBelow width states IsRight old n → RightBelow width states IsRight new (n + 1)
  next_right old new row n state counted adds long at right below s column other l within there = ⊎_elim
      (λ (before : s < n). subst (IsRight other column) (sym (adds.kept s column (omega (arith, before, counted)))) (below s column other before within there))
      (λ (from : n ≤ s).
      let last : s ≡ n = omega (arith, from, l) in
      let same : Some state ≡ Some other = sym at ∙ ap (slice_get states) (sym last) ∙ there in
      let is : state ≡ other = cc in
      let read : number_at new s column ≡ slice_index row column = ap (λ k. number_at new k column) (last ∙ sym counted) ∙ adds.added column (omega (arith, within, long)) in
      subst (IsRight other column) (sym read) (subst (λ (x : State Bits). IsRight x column (slice_index row column)) is (right column within)))
      (cases_lt s n)

-- ---- actions
module _ (terminals : List TerminalString) (productions : List Production) where
  -- a number is that of the action of a state on each token with the bit
  abbrev pub IsActionOf : State Bits → ℕ → ℕ → Type 0
  IsActionOf state bit number = (token : Token) → CanStandNext token → IsBitOf terminals token bit → entry_of productions number ≡ action_on (contents_of (holds_token terminals) state) token

  no_action : (token : Token) → CanStandNext token → action_on no_contents token ≡ None
  no_action Eof next = refl
  no_action Error next = absurd next
  no_action (Terminal t) next = refl

  pub next_actions : (states : List (State Bits)) (old new : Rows) (row : List ℕ) (n : ℕ) (state : State Bits) → row_count old ≡ n → AddsRow old new row → slice_get states n ≡ Some state → IsActionRow terminals productions (contents_of (holds_token terminals) state) row →
      RightBelow (length terminals + 1) states IsActionOf old n → RightBelow (length terminals + 1) states IsActionOf new (n + 1)
  next_actions states old new row n state counted adds at is = next_right (length terminals + 1) states IsActionOf old new row n state counted adds is.long at (λ column within token next bit. is.each column token next bit)

  -- the rows of all states have their actions
  pub all_actions : (states : List (State Bits)) (rows : Rows) → row_count rows ≡ length states → RightBelow (length terminals + 1) states IsActionOf rows (length states) → HaveActions terminals productions (contents terminals states) rows
  all_actions states rows counted right s bit token next at = ⊎_elim
      (λ there.
      let state = there.0 in
      right s bit state there.1 (bit_within terminals token bit next at) there.2 token next at ∙ ap (λ o. action_on (contents_at (holds_token terminals) o) token) (sym there.2))
      (λ none.
      let l = none.0 in
      ap (entry_of productions) (past rows s bit (omega (arith, l, counted))) ∙ no_entry productions ∙ sym (ap (λ o. action_on (contents_at (holds_token terminals) o) token) none.1 ∙ no_action token next))
      (slice_get_cases states s).1

-- ---- gotos
module _ (names : List NonterminalString) where
  -- a number is that of the goto of a state on the name with the number of the column
  abbrev pub IsGotoOf : State Bits → ℕ → ℕ → Type 0
  IsGotoOf state column number = (name : NonterminalString) → slice_get names column ≡ Some name → target_of number ≡ (contents_of (holds_token []) state).goto name

  pub next_gotos : (states : List (State Bits)) (old new : Rows) (row : List ℕ) (n : ℕ) (state : State Bits) → row_count old ≡ n → AddsRow old new row → slice_get states n ≡ Some state → IsGotoRow names (contents_of (holds_token []) state).goto row →
      RightBelow (length names) states IsGotoOf old n → RightBelow (length names) states IsGotoOf new (n + 1)
  next_gotos states old new row n state counted adds at is = next_right (length names) states IsGotoOf old new row n state counted adds is.long at (λ column within name there. is.each column name there)

  -- the rows of all states have their gotos
  pub all_gotos : (states : List (State Bits)) (rows : Rows) → row_count rows ≡ length states → RightBelow (length names) states IsGotoOf rows (length states) → HaveGotos names (contents [] states) rows
  all_gotos states rows counted right s column name there = ⊎_elim
      (λ found.
      let state = found.0 in
      right s column state found.1 (slice_get_within names column name there) found.2 name there ∙ ap (λ o. (contents_at (holds_token []) o).goto name) (sym found.2))
      (λ none.
      let l = none.0 in
      ap target_of (past rows s column (omega (arith, l, counted))) ∙ sym (ap (λ o. (contents_at (holds_token []) o).goto name) none.1))
      (slice_get_cases states s).1

-- the gotos of states do not depend on terminals
pub same_gotos : (terminals : List TerminalString) (states : List (State Bits)) (names : List NonterminalString) (rows : Rows) → HaveGotos names (contents [] states) rows → HaveGotos names (contents terminals states) rows
same_gotos terminals states names rows have s number name at = have s number name at ∙ by (slice_get states s)
  where
    by : (o : Option (State Bits)) → (contents_at (holds_token []) o).goto name ≡ (contents_at (holds_token terminals) o).goto name
    by None = refl
    by (Some state) = refl

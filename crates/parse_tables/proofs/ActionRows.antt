-- The numbers in a row of actions, while reductions are put into it.
use Rattle.std.proofs.Common.{◌≡◌, ◌≢◌, ℕ, ◌+◌, ◌-◌, ◌<◌, ◌≤◌, ◌==◌, ◌&&◌, cond, nat_lt, Bool, true, false, List, [], ◌∷◌, length, map, slice_get, slice_index, Option, None, Some, option_map, refl, sym, ◌∙◌, ap, arith, eqb-true, lt-ltb, ne_eqb}
use Rattle.std.proofs.lemmas.Bool.{eqb-false, le-ltb}
use Rattle.std.proofs.lemmas.Option.{slice_get_within}
use Rattle.lalrpop_base.specs.Words.{AllDiffer, Bits, CanStandNext, IsBitOf, ReduceBy, ShiftTo, TableEntry, action_on, contents_of, has, has_at, holds_token, reduction_of, reduction_on, shift_or}
use Rattle.lalrpop_grammar.specs.states.States.{Reduction}
use Rattle.lalrpop_grammar.specs.declared.lookahead.token.Token.{Token}
use Rattle.lalrpop_grammar.specs.declared.lookahead.token.Token.TheVariants.{Eof, Error, Terminal}
use Rattle.lalrpop_grammar.specs.declared.repr.Production.{Production}
use Rattle.lalrpop_grammar.specs.declared.repr.TerminalString.{TerminalString}
use Rattle.lalrpop_states.specs.declared.lr1_core.state.State.{State}
use Rattle.lalrpop_states.proofs.theory.states.HeldTokens.{place_is}
use Rattle.parse_tables.specs.Codes.{entry_of, reduction_entry, target_code, target_of}

-- a set holds a token exactly if it has its bit
pub holds_bit : (terminals : List TerminalString) → AllDiffer terminals → (set : Bits) (token : Token) (bit : ℕ) → CanStandNext token → IsBitOf terminals token bit → holds_token terminals set token ≡ has set bit
holds_bit terminals differ set Eof bit next at = ap (has set) (sym at)
holds_bit terminals differ set Error bit next at = absurd next
holds_bit terminals differ set (Terminal t) bit next at = ap (has_at set) (place_is terminals differ t bit at)

-- a target after 1 is read back
pub goto_code : (o : Option ℕ) → target_of (target_code 1 o) ≡ o
goto_code None = refl
goto_code (Some target) =
    let some : (1 + target == 0) ≡ false = ne_eqb (1 + target) 0 (λ e. omega (arith, e)) in
    let back : 1 + target - 1 ≡ target = omega arith in
    ap (λ b. cond b None (Some (1 + target - 1))) some ∙ ap Some back

-- the bit of a token that can be next is at most the number of terminals
pub bit_within : (terminals : List TerminalString) (token : Token) (bit : ℕ) → CanStandNext token → IsBitOf terminals token bit → bit < length terminals + 1
bit_within terminals Eof bit next at = omega (arith, at)
bit_within terminals Error bit next at = absurd next
bit_within terminals (Terminal t) bit next at = let within = slice_get_within terminals bit t at in omega (arith, within)

module _ (productions : List Production) where
  -- the number of a shift
  shift_code : (target : ℕ) → entry_of productions (length productions + 1 + target) ≡ Some (ShiftTo target)
  shift_code target =
      let code = length productions + 1 + target in
      let above : nat_lt (length productions) code ≡ true = lt-ltb (length productions) code (omega arith) in
      let back : code - length productions - 1 ≡ target = omega arith in
      ap (λ b. cond b (Some (ShiftTo (code - length productions - 1))) (reduction_entry productions code)) above ∙ ap (λ n. Some (ShiftTo n)) back

  -- a number that is not above the number of productions is of a reduction, if it is of any entry
  low_code : (code : ℕ) → code ≤ length productions → entry_of productions code ≡ reduction_entry productions code
  low_code code few = ap (λ b. cond b (Some (ShiftTo (code - length productions - 1))) (reduction_entry productions code)) (le-ltb (length productions) code few)

  -- 0 means no entry
  pub no_entry : entry_of productions 0 ≡ None
  no_entry = low_code 0 (omega arith)

  reduce_code : (number : ℕ) (p : Production) → slice_get productions number ≡ Some p → entry_of productions (number + 1) ≡ Some (ReduceBy p)
  reduce_code number p at =
      let within = slice_get_within productions number p at in
      let some : (number + 1 == 0) ≡ false = ne_eqb (number + 1) 0 (λ e. omega (arith, e)) in
      let back : number + 1 - 1 ≡ number = omega arith in
      low_code (number + 1) (omega (arith, within))
      ∙ ap (λ b. cond b None (option_map ReduceBy (slice_get productions (number + 1 - 1)))) some
      ∙ ap (λ n. option_map ReduceBy (slice_get productions n)) back ∙ ap (option_map ReduceBy) at

  module _ (token : Token) (aim : Option TableEntry) where
    -- a number other than 0 means the entry. After 0 the reductions that are left decide
    pub record IsCell (rest : List Reduction) (code : ℕ) : Type 0 where
      pub full : code ≢ 0 → entry_of productions code ≡ aim
      pub left : code ≡ 0 → aim ≡ option_map ReduceBy (reduction_on rest token)

    next_full : (r : Reduction) (rest : List Reduction) (code new : ℕ) → code ≢ 0 → IsCell (r ∷ rest) code → new ≡ code → IsCell rest new
    next_full r rest code new some cell e = record {
      full = λ _. ap (entry_of productions) e ∙ cell.full some;
      left = λ none. absurd (some (sym e ∙ none));
    }

    next_held : (r : Reduction) (rest : List Reduction) (code number : ℕ) → code ≡ 0 → r.holds token ≡ true → IsCell (r ∷ rest) code → slice_get productions number ≡ Some r.production → (new : ℕ) → new ≡ number + 1 → IsCell rest new
    next_held r rest code number none held cell at new e = record {
      full = λ _. ap (entry_of productions) e ∙ reduce_code number r.production at ∙ sym (cell.left none ∙ ap (λ b. option_map ReduceBy (cond b (Some r.production) (reduction_on rest token))) held);
      left = λ none_now. absurd (omega (arith, none_now, e));
    }

    next_other : (r : Reduction) (rest : List Reduction) (code new : ℕ) → code ≡ 0 → r.holds token ≡ false → IsCell (r ∷ rest) code → new ≡ code → IsCell rest new
    next_other r rest code new none held cell e = record {
      full = λ some. absurd (some (e ∙ none));
      left = λ _. cell.left none ∙ ap (λ b. option_map ReduceBy (cond b (Some r.production) (reduction_on rest token))) held;
    }

    -- a reduction was put into the cell, if the cell had none and the reduction holds the token
    pub next_cell : (r : Reduction) (rest : List Reduction) (code number new : ℕ) (held : Bool) → r.holds token ≡ held → slice_get productions number ≡ Some r.production → IsCell (r ∷ rest) code → new ≡ cond (code == 0 && held) (number + 1) code → IsCell rest new
    next_cell r rest code number new held holds at cell is = by (code == 0) refl held refl
      where
        by : (b : Bool) → (code == 0) ≡ b → (h : Bool) → held ≡ h → IsCell rest new
        by false e h eh = next_full r rest code new (eqb-false code 0 e) cell (is ∙ ap (λ c. cond (c && held) (number + 1) code) e)
        by true e true eh = next_held r rest code number (eqb-true code 0 e) (holds ∙ eh) cell at new (is ∙ ap (λ c. cond (c && held) (number + 1) code) e ∙ ap (λ c. cond (true && c) (number + 1) code) eh)
        by true e false eh = next_other r rest code new (eqb-true code 0 e) (holds ∙ eh) cell (is ∙ ap (λ c. cond (c && held) (number + 1) code) e ∙ ap (λ c. cond (true && c) (number + 1) code) eh)

    -- at the end the number means the entry
    pub last_cell : (code : ℕ) → IsCell [] code → entry_of productions code ≡ aim
    last_cell code cell = by (code == 0) refl
      where
        by : (b : Bool) → (code == 0) ≡ b → entry_of productions code ≡ aim
        by false e = cell.full (eqb-false code 0 e)
        by true e =
            let none = eqb-true code 0 e in
            ap (entry_of productions) none ∙ no_entry ∙ sym (cell.left none)

  -- before the first reduction, the number is that of the shift, if there is one
  pub first_cell : (token : Token) (shift : Option ℕ) (reductions : List Reduction) (code : ℕ) → code ≡ target_code (length productions + 1) shift → IsCell token (shift_or shift (reduction_on reductions token)) reductions code
  first_cell token None reductions code is = record {
    full = λ some. absurd (some is);
    left = λ _. refl;
  }
  first_cell token (Some target) reductions code is = record {
    full = λ _. ap (entry_of productions) is ∙ shift_code target;
    left = λ none. let high : code ≡ length productions + 1 + target = is in absurd (omega (arith, none, high));
  }

-- a row that has the shifts of a state alone
module _ (terminals : List TerminalString) (productions : List Production) (state : State Bits) (row : List ℕ) (base : ℕ) (based : base ≡ length productions + 1) (put : (n : ℕ) (x : TerminalString) → slice_get terminals n ≡ Some x → slice_index row n ≡ target_code base ((contents_of (holds_token terminals) state).shift x)) (others : (n : ℕ) → length terminals ≤ n → slice_index row n ≡ 0) where
  pub first_row : (bit : ℕ) (token : Token) → CanStandNext token → IsBitOf terminals token bit → IsCell productions token (action_on (contents_of (holds_token terminals) state) token) (map (reduction_of (holds_token terminals)) state.reductions.items) (slice_index row bit)
  first_row bit Eof next at = first_cell productions Eof None (map (reduction_of (holds_token terminals)) state.reductions.items) (slice_index row bit) (others bit (omega (arith, at)))
  first_row bit Error next at = absurd next
  first_row bit (Terminal t) next at = first_cell productions (Terminal t) ((contents_of (holds_token terminals) state).shift t) (map (reduction_of (holds_token terminals)) state.reductions.items) (slice_index row bit) (put bit t at ∙ ap (λ b. target_code b ((contents_of (holds_token terminals) state).shift t)) based)

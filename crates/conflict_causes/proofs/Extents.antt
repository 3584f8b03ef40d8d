-- The conflicts of a cause, one more at a time.
use Rattle.std.proofs.Common.{◌≡◌, ◌↔◌, ℕ, ◌+◌, ◌<◌, ◌⊎◌, inl, inr, List, [], ◌∷◌, ◌++◌, length, take, get_or, refl, sym, ◌∙◌, ap, subst, IsTrue, Bool, true, false, ◌||◌}
use Rattle.std.specs.Prelude.{slice_get, Some, Contains}
use Rattle.std.specs.BTreeSet.{insert_key}
use Rattle.std.specs.Ordering.{nat_cmp}
use Rattle.std.proofs.lemmas.Bool.{or_cases}
use Rattle.std.proofs.lemmas.List.{take_more}
use Rattle.std.proofs.lemmas.List.Elements.{Contains-append_left, Contains-append_right, Contains-append_cases}
use Rattle.std.proofs.lemmas.Map.Lookups.{exact_unsigned}
use Rattle.std.proofs.lemmas.Option.{get_or_from_slice_get, slice_get-get_or, slice_get_within}
use mathlib.Core.Bool.{true≢false}
use Rattle.lalrpop_collections.specs.Words.{Bits, has, has-join, has-no_bits, join, no_bits}
use Rattle.lalrpop_collections.proofs.theory.lists.Members.{Contains-none, contains_head, contains-cons, insert_key-from, insert_key-has, insert_key-kept}
use Rattle.lalrpop_collections.proofs.theory.lists.Places.{same_some}
use Rattle.lalrpop_states.specs.declared.lr1_core.state.Conflict.{Conflict}
use Rattle.conflict_causes.specs.Extents.{AddsState, AddsConflictTokens, AreCauseStates, AreCauseTokens, HoldsOfOne}

-- ---- something is true of one of some conflicts
module _ (P : Conflict Bits → Type 0) (conflicts : List (Conflict Bits)) where
  pub of_none : HoldsOfOne P conflicts [] → ⊥
  of_none h = Contains-none h.number h.of_cause

  pub of_left : (xs ys : List ℕ) → HoldsOfOne P conflicts xs → HoldsOfOne P conflicts (xs ++ ys)
  of_left xs ys h = record { number = h.number; conflict = h.conflict; of_cause = Contains-append_left xs ys h.number h.of_cause; there = h.there; holds = h.holds }

  pub of_right : (xs ys : List ℕ) → HoldsOfOne P conflicts ys → HoldsOfOne P conflicts (xs ++ ys)
  of_right xs ys h = record { number = h.number; conflict = h.conflict; of_cause = Contains-append_right xs ys h.number h.of_cause; there = h.there; holds = h.holds }

  pub of_both : (xs ys : List ℕ) → HoldsOfOne P conflicts (xs ++ ys) → HoldsOfOne P conflicts xs ⊎ HoldsOfOne P conflicts ys
  of_both xs ys h = elim (Contains-append_cases xs ys h.number h.of_cause) [
    | inl c ↦ inl (record { number = h.number; conflict = h.conflict; of_cause = c; there = h.there; holds = h.holds })
    | inr c ↦ inr (record { number = h.number; conflict = h.conflict; of_cause = c; there = h.there; holds = h.holds })
  ]

  -- there is a conflict with the number, or there is none
  pub of_one : (number : ℕ) (c : Conflict Bits) → slice_get conflicts number ≡ Some c → P c → HoldsOfOne P conflicts (number ∷ [])
  of_one number c there holds = record { number = number; conflict = c; of_cause = contains_head number []; there = there; holds = holds }

  pub from_one : (number : ℕ) (c : Conflict Bits) → slice_get conflicts number ≡ Some c → HoldsOfOne P conflicts (number ∷ []) → P c
  from_one number c there h = elim (contains-cons number [] h.number h.of_cause) [
    | inl e ↦ subst P (same_some h.conflict c (sym h.there ∙ ap (slice_get conflicts) (sym e) ∙ there)) h.holds
    | inr none ↦ absurd (Contains-none h.number none)
  ]

  pub from_past : (number : ℕ) → (number < length conflicts → ⊥) → HoldsOfOne P conflicts (number ∷ []) → ⊥
  from_past number past h = elim (contains-cons number [] h.number h.of_cause) [
    | inl e ↦ past (subst (λ (n : ℕ). n < length conflicts) (sym e) (slice_get_within conflicts h.number h.conflict h.there))
    | inr none ↦ Contains-none h.number none
  ]

  -- one number more
  pub one_more : (numbers : List ℕ) (i number : ℕ) → i < length numbers → number ≡ get_or numbers i number → HoldsOfOne P conflicts (take (i + 1) numbers) ↔ (HoldsOfOne P conflicts (take i numbers) ⊎ HoldsOfOne P conflicts (number ∷ []))
  one_more numbers i number within is =
      let more : take (i + 1) numbers ≡ take i numbers ++ number ∷ [] = take_more numbers i number within ∙ ap (λ (n : ℕ). take i numbers ++ n ∷ []) (sym is) in (
        λ h. of_both (take i numbers) (number ∷ []) (subst (HoldsOfOne P conflicts) more h),
        λ h. subst (HoldsOfOne P conflicts) (sym more) (elim h [ inl a ↦ of_left (take i numbers) (number ∷ []) a | inr b ↦ of_right (take i numbers) (number ∷ []) b ]),
      )

-- ---- tokens
module _ (conflicts : List (Conflict Bits)) where
  pub tokens_added : (number : ℕ) (c : Conflict Bits) (old new : Bits) → slice_get conflicts number ≡ Some c → new ≡ join old c.lookahead → AddsConflictTokens conflicts number old new
  tokens_added number c old new there e bit =
      let both : has new bit ≡ (has old bit || has c.lookahead bit) = ap (λ (s : Bits). has s bit) e ∙ has-join old c.lookahead bit in (
        λ h. elim (or_cases (has old bit) (has c.lookahead bit) (sym both ∙ h)) [
          | inl a ↦ inl a
          | inr b ↦ inr (of_one (λ (d : Conflict Bits). IsTrue (has d.lookahead bit)) conflicts number c there b)
        ],
        λ h. both ∙ elim h [
          | inl a ↦ or_left (has old bit) (has c.lookahead bit) a
          | inr b ↦ or_right (has old bit) (has c.lookahead bit) (from_one (λ (d : Conflict Bits). IsTrue (has d.lookahead bit)) conflicts number c there b)
        ],
      )
    where
      or_left : (a b : Bool) → a ≡ true → (a || b) ≡ true
      or_left a b e = ap (λ x. x || b) e

      or_right : (a b : Bool) → b ≡ true → (a || b) ≡ true
      or_right true b e = refl
      or_right false b e = e

  pub no_tokens_added : (number : ℕ) (old : Bits) → (number < length conflicts → ⊥) → AddsConflictTokens conflicts number old old
  no_tokens_added number old past bit = (λ h. inl h, λ h. elim h [ inl a ↦ a | inr b ↦ absurd (from_past (λ (d : Conflict Bits). IsTrue (has d.lookahead bit)) conflicts number past b) ])

  pub tokens_more : (numbers : List ℕ) (i number : ℕ) (old new : Bits) → i < length numbers → number ≡ get_or numbers i number → AreCauseTokens conflicts (take i numbers) old → AddsConflictTokens conflicts number old new → AreCauseTokens conflicts (take (i + 1) numbers) new
  tokens_more numbers i number old new within is before adds bit =
      let more = one_more (λ (d : Conflict Bits). IsTrue (has d.lookahead bit)) conflicts numbers i number within is in (
        λ h. more.1 (elim ((adds bit).0 h) [ inl a ↦ inl ((before bit).0 a) | inr b ↦ inr b ]),
        λ h. (adds bit).1 (elim (more.0 h) [ inl a ↦ inl ((before bit).1 a) | inr b ↦ inr b ]),
      )

-- ---- states
module _ (conflicts : List (Conflict Bits)) where
  pub state_added : (number : ℕ) (c : Conflict Bits) (old new : List ℕ) → slice_get conflicts number ≡ Some c → new ≡ insert_key nat_cmp old c.state.0 → AddsState conflicts number old new
  state_added number c old new there e state = (
    λ h. elim (insert_key-from nat_cmp old c.state.0 state (subst (λ (xs : List ℕ). Contains xs state) e h)) [
      | inl a ↦ inl a
      | inr b ↦ inr (of_one (λ (d : Conflict Bits). d.state.0 ≡ state) conflicts number c there b)
    ],
    λ h. subst (λ (xs : List ℕ). Contains xs state) (sym e) (elim h [
      | inl a ↦ insert_key-kept nat_cmp old c.state.0 state a
      | inr b ↦ subst (Contains (insert_key nat_cmp old c.state.0)) (from_one (λ (d : Conflict Bits). d.state.0 ≡ state) conflicts number c there b) (insert_key-has nat_cmp exact_unsigned old c.state.0)
    ]),
  )

  pub no_state_added : (number : ℕ) (old : List ℕ) → (number < length conflicts → ⊥) → AddsState conflicts number old old
  no_state_added number old past state = (λ h. inl h, λ h. elim h [ inl a ↦ a | inr b ↦ absurd (from_past (λ (d : Conflict Bits). d.state.0 ≡ state) conflicts number past b) ])

  pub states_more : (numbers : List ℕ) (i number : ℕ) (old new : List ℕ) → i < length numbers → number ≡ get_or numbers i number → AreCauseStates conflicts (take i numbers) old → AddsState conflicts number old new → AreCauseStates conflicts (take (i + 1) numbers) new
  states_more numbers i number old new within is before adds state =
      let more = one_more (λ (d : Conflict Bits). d.state.0 ≡ state) conflicts numbers i number within is in (
        λ h. more.1 (elim ((adds state).0 h) [ inl a ↦ inl ((before state).0 a) | inr b ↦ inr b ]),
        λ h. (adds state).1 (elim (more.0 h) [ inl a ↦ inl ((before state).1 a) | inr b ↦ inr b ]),
      )

-- ---- before the first conflict
pub no_tokens : (conflicts : List (Conflict Bits)) (set : Bits) → set ≡ no_bits → AreCauseTokens conflicts [] set
no_tokens conflicts set e bit = (
  λ h. absurd (true≢false (sym h ∙ ap (λ (s : Bits). has s bit) e ∙ has-no_bits bit)),
  λ h. absurd (of_none (λ (d : Conflict Bits). IsTrue (has d.lookahead bit)) conflicts h),
)

pub no_states : (conflicts : List (Conflict Bits)) (numbers : List ℕ) → numbers ≡ [] → AreCauseStates conflicts [] numbers
no_states conflicts numbers e state = (
  λ h. absurd (Contains-none state (subst (λ (xs : List ℕ). Contains xs state) e h)),
  λ h. absurd (of_none (λ (d : Conflict Bits). d.state.0 ≡ state) conflicts h),
)

-- a number that is read by its place
pub same_read : (numbers : List ℕ) (i : ℕ) → i < length numbers → get_or numbers i 0 ≡ get_or numbers i (get_or numbers i 0)
same_read numbers i within = sym (get_or_from_slice_get numbers i (get_or numbers i 0) (get_or numbers i 0) (slice_get-get_or numbers i 0 within))

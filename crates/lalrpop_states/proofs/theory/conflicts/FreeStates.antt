-- A state has no conflict if no two reductions hold the same token and no reduction holds the
-- terminal of a shift.
use Rattle.std.proofs.Common.{◌≡◌, ◌∙◌, ◌↔◌, ℕ, true, inl, inr, List, [], ◌∷◌, ◌++◌, length, sym, subst, ap, arith}
use Rattle.std.specs.Prelude.{Contains, IsTrue, slice_get}
use Rattle.std.proofs.lemmas.Option.{slice_get_within}
use Rattle.lalrpop_collections.specs.Words.{AllDiffer, Bits, has}
use Rattle.lalrpop_grammar.specs.Words.{HasToken}
use Rattle.lalrpop_states.specs.conflicts.StateConflicts.{IsConflictFree, StateReduction}
use Rattle.lalrpop_grammar.specs.declared.lookahead.token.Token.TheVariants.{Terminal as TokenOf}
use Rattle.lalrpop_states.proofs.Types.{State, StateIndex, TerminalString}
use Rattle.lalrpop_states.proofs.theory.states.HeldTokens.{place_is, place_there}
use Rattle.lalrpop_states.specs.conflicts.HeldShifts.{HoldsNoShift, IsHeldBit, ShareNoBit}
use Rattle.lalrpop_collections.proofs.theory.lists.Members.{contains-cons, place}
use Rattle.lalrpop_collections.proofs.theory.lists.Places.{push_cases, slice_get-longer, slice_get-push_at}
use Rattle.lalrpop_collections.proofs.theory.lists.Lists.{contains_place, place_contains}

-- ---- one more reduction
-- an empty list of reductions shares no bit
pub share_none : ShareNoBit []
share_none i j bit r s l at there h k = cc

-- reductions share no bit after one is added that holds none of their bits
pub share_none_more : (rs : List StateReduction) (r : StateReduction) → ShareNoBit rs → ((bit : ℕ) → IsHeldBit rs bit → has r.0 bit ≡ true → ⊥) → ShareNoBit (rs ++ r ∷ [])
share_none_more rs r before none i j bit p q l at there h k = elim (push_cases rs r j q there) [
  | inl early ↦ elim (push_cases rs r i p at) [
    | inl here ↦ before i j bit p q l here early h k
    | inr last ↦ absurd (let w = slice_get_within rs j q early in let e = last.0 in omega arith)
  ]
  | inr end ↦ elim (push_cases rs r i p at) [
    | inl here ↦ none bit (p, place_contains rs i p here, h) (subst (λ (z : StateReduction). has z.0 bit ≡ true) (sym end.1) k)
    | inr last ↦ absurd (let d = end.0 in let e = last.0 in omega arith)
  ]
]

-- reductions share a bit if one holds a bit of those before it
pub share_one : (rs front back : List StateReduction) (r : StateReduction) → rs ≡ front ++ r ∷ [] ++ back → (bit : ℕ) → IsHeldBit front bit → has r.0 bit ≡ true → ¬ ShareNoBit rs
share_one rs front back r is bit held h free =
    let f = place front held.0 held.1 in
    let at = slice_get-longer (front ++ r ∷ []) back f.0 held.0 (slice_get-longer front (r ∷ []) f.0 held.0 f.2) in
    let there = slice_get-longer (front ++ r ∷ []) back (length front) r (slice_get-push_at front r) in
    free f.0 (length front) bit held.0 r f.1 (ap (λ (xs : List StateReduction). slice_get xs f.0) is ∙ at) (ap (λ (xs : List StateReduction). slice_get xs (length front)) is ∙ there) held.2 h

-- ---- one shift less
-- a shift whose terminal is held is after the first one, if the terminal of the first is not held
pub shift_behind : (terminals : List TerminalString) (held : Bits) (x : TerminalString × StateIndex) (before rest : List (TerminalString × StateIndex)) → before ≡ x ∷ rest → ¬ HasToken terminals held (TokenOf x.0) →
    (t : TerminalString) (target : StateIndex) → HasToken terminals held (TokenOf t) → Contains before (t, target) → Contains rest (t, target)
shift_behind terminals held x before rest is none t target some c = elim (contains-cons x rest (t, target) (subst (λ (xs : List (TerminalString × StateIndex)). Contains xs (t, target)) is c)) [
  | inl same ↦ absurd (none (subst (λ (u : TerminalString). HasToken terminals held (TokenOf u)) (sym (ap (λ (y : TerminalString × StateIndex). y.0) same)) some))
  | inr later ↦ later
]

-- ---- a state
module _ (terminals : List TerminalString) (state : State Bits) where
  -- without reductions there is no conflict
  pub nothing_reduced_free : state.reductions.items ≡ [] → IsConflictFree terminals state
  nothing_reduced_free none = record {
    shifts = λ k j bit t target r at_k e at_j h. absurd (let w = slice_get_within state.reductions.items j r at_j in let l = ap (λ (xs : List StateReduction). length xs) none in omega arith);
    reductions = λ i j bit r s l at_i at_j h k. absurd (let w = slice_get_within state.reductions.items j s at_j in let n = ap (λ (xs : List StateReduction). length xs) none in omega arith);
  }

  module _ (differ : AllDiffer terminals) (held : Bits) (of : (bit : ℕ) → IsTrue (has held bit) ↔ IsHeldBit state.reductions.items bit) where
    pub state_free : ShareNoBit state.reductions.items → HoldsNoShift terminals held state.shifts.entries → IsConflictFree terminals state
    state_free apart none = record {
      shifts = λ k j bit t target r at_k e at_j h.
          none t target (place_contains state.shifts.entries k (t, target) at_k) (bit, place_there terminals t bit e, (of bit).1 (r, place_contains state.reductions.items j r at_j, h));
      reductions = apart;
    }

    pub free_shifts : IsConflictFree terminals state → HoldsNoShift terminals held state.shifts.entries
    free_shifts free t target c some =
        let k = contains_place state.shifts.entries (t, target) c in
        let r = (of some.0).0 some.2 in
        let j = contains_place state.reductions.items r.0 r.1 in
        free.shifts k.0 j.0 some.0 t target r.0 k.1 (place_is terminals differ t some.0 some.1) j.1 r.2

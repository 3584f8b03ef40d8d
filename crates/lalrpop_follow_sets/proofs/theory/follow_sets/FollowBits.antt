-- The bits of sets in a list: one set more, and a set that is changed.
use Rattle.std.proofs.Common.{◌≡◌, ◌∙◌, ◌⊎◌, inl, inr, ℕ, zero, suc, ◌+◌, ◌<◌, ◌↔◌, true, List, [], ◌∷◌, ◌++◌, length, get_or, set, refl, sym, ap, arith, eqb-true, eq-eqb}
use Rattle.std.specs.Prelude.{slice_get, Some, ◌==◌}
use Rattle.std.proofs.lemmas.Bool.{cases_eq, or_cases, or_left, or_right, true≢false}
use Rattle.std.proofs.lemmas.List.{length_push, length-set, get_or-set_same, get_or-set_other, get_or_default}
use Rattle.std.proofs.lemmas.Option.{get_or_from_slice_get}
use Rattle.lalrpop_base.specs.Words.{Bits, HoldsBit, has, has-join, has-no_bits, has-with_bit, join, no_bits, set_at, with_bit}
use Rattle.lalrpop_collections.proofs.theory.lists.Places.{filled, push_cases, slice_get-longer, slice_get-push_at}
use Rattle.lalrpop_follow_sets.specs.follow_sets.FollowWalks.{AreEmptySets, TakesBits}

-- ---- bits of one set
-- no bit is in the empty set
pub no_bit : (bits : Bits) (bit : ℕ) → bits ≡ no_bits → has bits bit ≡ true → ⊥
no_bit bits bit empty h = true≢false (sym h ∙ ap (λ (s : Bits). has s bit) empty ∙ has-no_bits bit)

-- a bit is in two joined sets if it is in one of them
pub join_bits : (a b : Bits) (bit : ℕ) → (has (join a b) bit ≡ true) ↔ ((has a bit ≡ true) ⊎ (has b bit ≡ true))
join_bits a b bit = (
  λ h. or_cases (has a bit) (has b bit) (sym (has-join a b bit) ∙ h),
  λ h. has-join a b bit ∙ elim h [ inl l ↦ or_left (has a bit) (has b bit) l | inr r ↦ or_right (has a bit) (has b bit) r ],
)

-- a bit is in a set with one bit more if it is in the set, or is this bit
pub with_bit_bits : (a : Bits) (b bit : ℕ) → (has (with_bit a b) bit ≡ true) ↔ ((has a bit ≡ true) ⊎ (bit ≡ b))
with_bit_bits a b bit = (
  λ h. elim (or_cases (bit == b) (has a bit) (sym (has-with_bit a b bit) ∙ h)) [ inl e ↦ inr (eqb-true bit b e) | inr there ↦ inl there ],
  λ h. has-with_bit a b bit ∙ elim h [ inl there ↦ or_right (bit == b) (has a bit) there | inr e ↦ or_left (bit == b) (has a bit) (eq-eqb bit b e) ],
)

-- ---- sets in a list
-- a place of a list holds the bits of the set there
pub held_at : (sets : List Bits) (n bit : ℕ) (bits : Bits) → slice_get sets n ≡ Some bits → HoldsBit sets n bit ↔ (has bits bit ≡ true)
held_at sets n bit bits at =
    let same : set_at sets n ≡ bits = get_or_from_slice_get sets n bits no_bits at in
    (λ h. ap (λ (s : Bits). has s bit) (sym same) ∙ h, λ h. ap (λ (s : Bits). has s bit) same ∙ h)

-- no bits are held after the last set
pub held_within : (sets : List Bits) (n bit : ℕ) → HoldsBit sets n bit → n < length sets
held_within [] n bit h = absurd (no_bit no_bits bit refl h)
held_within (s ∷ sets) zero bit h = omega arith
held_within (s ∷ sets) (suc n) bit h = let l = held_within sets n bit h in omega arith

-- one set more changes no set before it
pub held_before : (sets : List Bits) (bits : Bits) (n bit : ℕ) → n < length sets → HoldsBit (sets ++ bits ∷ []) n bit ↔ HoldsBit sets n bit
held_before sets bits n bit l =
    let found = filled sets n l in
    let old = held_at sets n bit found.0 found.1 in
    let new = held_at (sets ++ bits ∷ []) n bit found.0 (slice_get-longer sets (bits ∷ []) n found.0 found.1) in
    (λ h. old.1 (new.0 h), λ h. new.1 (old.0 h))

-- the last place holds the bits of the last set
pub held_last : (sets : List Bits) (bits : Bits) (n bit : ℕ) → n ≡ length sets → HoldsBit (sets ++ bits ∷ []) n bit ↔ (has bits bit ≡ true)
held_last sets bits n bit e = held_at (sets ++ bits ∷ []) n bit bits (ap (slice_get (sets ++ bits ∷ [])) e ∙ slice_get-push_at sets bits)

-- ---- empty sets
-- no sets are empty sets
pub empty_none : AreEmptySets 0 []
empty_none = record { counted = refl; empty = λ n bit h. no_bit no_bits bit refl h }

-- one empty set more
pub empty_more : (count : ℕ) (sets : List Bits) (bits : Bits) → bits ≡ no_bits → AreEmptySets count sets → AreEmptySets (count + 1) (sets ++ bits ∷ [])
empty_more count sets bits empty before = record {
  counted = length_push sets bits ∙ ap (λ (k : ℕ). k + 1) before.counted;
  empty = λ n bit h.
      let l = held_within (sets ++ bits ∷ []) n bit h in
      let found = filled (sets ++ bits ∷ []) n l in
      let held = (held_at (sets ++ bits ∷ []) n bit found.0 found.1).0 h in
      elim (push_cases sets bits n found.0 found.1) [
        | inl at ↦ before.empty n bit ((held_at sets n bit found.0 at).1 held)
        | inr last ↦ no_bit bits bit empty (ap (λ (s : Bits). has s bit) last.1 ∙ held)
      ];
}

-- ---- bits that are taken
-- if there is no such bit, no set changes
pub takes_none : (Such : ℕ → ℕ → Type 0) → ((n bit : ℕ) → ¬ Such n bit) → (sets : List Bits) → TakesBits Such sets sets
takes_none Such none sets = record { counted = refl; bits = λ n bit. (λ h. inl h, λ h. elim h [ inl old ↦ old | inr s ↦ absurd (none n bit s) ]) }

-- bits of one kind, and then of another
pub takes_then : (A B : ℕ → ℕ → Type 0) (old mid new : List Bits) → TakesBits A old mid → TakesBits B mid new → TakesBits (λ n bit. A n bit ⊎ B n bit) old new
takes_then A B old mid new a b = record {
  counted = b.counted ∙ a.counted;
  bits = λ n bit. (
    λ h. elim ((b.bits n bit).0 h) [
      | inl there ↦ elim ((a.bits n bit).0 there) [ inl first ↦ inl first | inr s ↦ inr (inl s) ]
      | inr s ↦ inr (inr s)
    ],
    λ h. elim h [
      | inl first ↦ (b.bits n bit).1 (inl ((a.bits n bit).1 (inl first)))
      | inr s ↦ elim s [ inl x ↦ (b.bits n bit).1 (inl ((a.bits n bit).1 (inr x))) | inr y ↦ (b.bits n bit).1 (inr y) ]
    ],
  );
}

-- equivalent conditions take the same bits
pub takes_same : (A B : ℕ → ℕ → Type 0) → ((n bit : ℕ) → A n bit ↔ B n bit) → (old new : List Bits) → TakesBits A old new → TakesBits B old new
takes_same A B same old new a = record {
  counted = a.counted;
  bits = λ n bit. (
    λ h. elim ((a.bits n bit).0 h) [ inl first ↦ inl first | inr s ↦ inr ((same n bit).0 s) ],
    λ h. (a.bits n bit).1 (elim h [ inl first ↦ inl first | inr s ↦ inr ((same n bit).1 s) ]),
  );
}

-- one set of the list gets more bits
pub takes_at : (old : List Bits) (n : ℕ) → n < length old → (there after : Bits) → there ≡ get_or old n there → (More : ℕ → Type 0) → ((bit : ℕ) → (has after bit ≡ true) ↔ ((has there bit ≡ true) ⊎ More bit)) →
    TakesBits (λ m bit. (m ≡ n) × More bit) old (set old n after)
takes_at old n within there after read More more =
    let is_there : there ≡ set_at old n = read ∙ get_or_default old n there no_bits within in
    record {
      counted = length-set old n after;
      bits = λ m bit. elim (cases_eq m n) [
        | inl same ↦
            let now : set_at (set old n after) m ≡ after = ap (set_at (set old n after)) same ∙ get_or-set_same old n after no_bits within in
            let before : set_at old m ≡ there = ap (set_at old) same ∙ sym is_there in (
              λ h. elim ((more bit).0 (ap (λ (s : Bits). has s bit) (sym now) ∙ h)) [ inl was ↦ inl (ap (λ (s : Bits). has s bit) before ∙ was) | inr came ↦ inr (same, came) ],
              λ h. ap (λ (s : Bits). has s bit) now ∙ (more bit).1 (elim h [ inl was ↦ inl (ap (λ (s : Bits). has s bit) (sym before) ∙ was) | inr came ↦ inr came.1 ]),
            )
        | inr other ↦
            let kept : set_at (set old n after) m ≡ set_at old m = get_or-set_other old n m after no_bits other in (
              λ h. inl (ap (λ (s : Bits). has s bit) (sym kept) ∙ h),
              λ h. ap (λ (s : Bits). has s bit) kept ∙ elim h [ inl was ↦ was | inr came ↦ absurd (other came.0) ],
            )
      ];
    }

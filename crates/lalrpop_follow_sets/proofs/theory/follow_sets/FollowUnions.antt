-- Follow sets that are joined to the lookahead sets of reductions.
use Rattle.std.proofs.Common.{◌≡◌, ◌∙◌, ◌⊎◌, inl, inr, ℕ, ◌+◌, ◌<◌, ◌≤◌, ◌↔◌, true, List, [], ◌∷◌, ◌++◌, length, get_or, set, sym, ap, subst, arith}
use Rattle.std.specs.Prelude.{slice_get, Some, Contains}
use Rattle.std.proofs.lemmas.Bool.{cases_lt}
use Rattle.std.proofs.lemmas.List.Elements.{Contains-append_left, Contains-push_cases, Contains-push}
use Rattle.std.proofs.lemmas.Option.{slice_get_within, slice_get-get_or}
use Rattle.lalrpop_base.specs.Words.{Bits, HoldsBit, has, join}
use Rattle.lalrpop_follow_sets.specs.follow_sets.FollowWalks.{AreEmptySets, AreUnions, JoinsUnions, TakesBits}
use Rattle.lalrpop_follow_sets.proofs.theory.follow_sets.FollowBits.{held_at, join_bits, takes_at, takes_none, takes_same, takes_then}
use Rattle.lalrpop_collections.proofs.theory.lists.Members.{Contains-none}
use Rattle.lalrpop_collections.proofs.theory.lists.Places.{same_some}

-- ---- one set that is joined to those of an item
module _ (found : Bits) (item : ℕ) (numbers : List ℕ) where
  -- the bit goes to a number before the place that is the item's
  abbrev pub GoesBefore : ℕ → ℕ → ℕ → Type 0
  GoesBefore k j bit = (j < k) × (slice_get numbers j ≡ Some item) × (has found bit ≡ true)

  -- no bit goes before the first number
  pub goes_begin : (old : List Bits) → TakesBits (GoesBefore 0) old old
  goes_begin old = takes_none (GoesBefore 0) (λ n bit s. let l = s.0 in absurd (omega arith)) old

  module _ (old mid : List Bits) (k : ℕ) (listed : k < length numbers) (counted : length old ≡ length numbers) (before : TakesBits (GoesBefore k) old mid) where
    -- the number at the place is the item's
    pub goes_there : get_or numbers k 0 ≡ item → (there after : Bits) → there ≡ get_or mid k there → after ≡ join there found → TakesBits (GoesBefore (k + 1)) old (set mid k after)
    goes_there same there after read joined =
        let within : k < length mid = let e = before.counted in omega arith in
        let at : slice_get numbers k ≡ Some item = slice_get-get_or numbers k 0 listed ∙ ap Some same in
        let more : (bit : ℕ) → (has after bit ≡ true) ↔ ((has there bit ≡ true) ⊎ (has found bit ≡ true)) = λ bit. subst (λ (s : Bits). (has s bit ≡ true) ↔ ((has there bit ≡ true) ⊎ (has found bit ≡ true))) (sym joined) (join_bits there found bit) in
        let taken = takes_at mid k within there after read (λ bit. has found bit ≡ true) more in
        takes_same (λ n bit. GoesBefore k n bit ⊎ ((n ≡ k) × (has found bit ≡ true))) (GoesBefore (k + 1)) (λ n bit. (
          λ h. elim h [
            | inl s ↦ ((let l = s.0 in omega arith), s.1, s.2)
            | inr s ↦ ((let e = s.0 in omega arith), ap (slice_get numbers) s.0 ∙ at, s.1)
          ],
          λ s. elim (cases_lt n k) [
            | inl l ↦ inl (l, s.1, s.2)
            | inr l ↦ inr ((let m = s.0 in omega arith), s.2)
          ],
        )) old (set mid k after) (takes_then (GoesBefore k) (λ n bit. (n ≡ k) × (has found bit ≡ true)) old mid (set mid k after) before taken)

    -- the number at the place is another's
    pub goes_past : (get_or numbers k 0 ≡ item → ⊥) → TakesBits (GoesBefore (k + 1)) old mid
    goes_past other = takes_same (GoesBefore k) (GoesBefore (k + 1)) (λ n bit. (
      λ s. ((let l = s.0 in omega arith), s.1, s.2),
      λ s. elim (cases_lt n k) [
        | inl l ↦ (l, s.1, s.2)
        | inr l ↦
            let here : n ≡ k = (let m = s.0 in omega arith) in
            absurd (other (same_some (get_or numbers k 0) item (sym (slice_get-get_or numbers k 0 listed) ∙ ap (slice_get numbers) (sym here) ∙ s.1)))
      ],
    )) old mid before

  -- at the end the set is joined to all sets of the item
  pub goes_end : (old new : List Bits) (k : ℕ) → length numbers ≤ k → TakesBits (GoesBefore k) old new → JoinsUnions found item numbers old new
  goes_end old new k end taken = record {
    counted = taken.counted;
    each = λ j r bit at. (
      λ h. elim ((taken.bits j bit).0 h) [ inl was ↦ inl was | inr s ↦ inr (same_some r item (sym at ∙ s.1), s.2) ],
      λ h. (taken.bits j bit).1 (elim h [
        | inl was ↦ inl was
        | inr s ↦ inr ((let l = slice_get_within numbers j r at in omega arith), at ∙ ap Some s.0, s.1)
      ]),
    );
  }

-- ---- the unions, one entry more
-- without entries all unions are empty
pub unions_none : (follow : List Bits) (numbers : List ℕ) (sets : List Bits) → AreEmptySets (length numbers) sets → AreUnions follow [] numbers sets
unions_none follow numbers sets empty = record {
  counted = empty.counted;
  each = λ j k bit at. (λ h. absurd (empty.empty j bit h), λ h. absurd (Contains-none (k, h.0) h.1));
}

-- one entry more adds its set to those of its item
pub unions_more : (follow : List Bits) (entries : List (ℕ × ℕ)) (e : ℕ × ℕ) (numbers : List ℕ) (old new : List Bits) (found : Bits) → slice_get follow e.1 ≡ Some found → AreUnions follow entries numbers old → JoinsUnions found e.0 numbers old new →
    AreUnions follow (entries ++ e ∷ []) numbers new
unions_more follow entries e numbers old new found at before joined = record {
  counted = joined.counted ∙ before.counted;
  each = λ j k bit there. (
    λ h. elim ((joined.each j k bit there).0 h) [
      | inl was ↦ let u = (before.each j k bit there).0 was in (u.0, Contains-append_left entries (e ∷ []) (k, u.0) u.1, u.2)
      | inr came ↦ (
        e.1,
        subst (λ (i : ℕ). Contains (entries ++ e ∷ []) (i, e.1)) (sym came.0) (Contains-push entries e),
        (held_at follow e.1 bit found at).1 came.1,
      )
    ],
    λ u. (joined.each j k bit there).1 (elim (Contains-push_cases entries e (k, u.0) u.1) [
      | inl c ↦ inl ((before.each j k bit there).1 (u.0, c, u.2))
      | inr same ↦ inr (
        sym (ap (λ (f : ℕ × ℕ). f.0) same),
        (held_at follow e.1 bit found at).0 (subst (λ (m : ℕ). HoldsBit follow m bit) (sym (ap (λ (f : ℕ × ℕ). f.1) same)) u.2),
      )
    ]),
  );
}

-- Lists in two parts: each element has a new place, no two have the same one, and each place is
-- taken.
use Rattle.std.proofs.Common.{◌≡◌, ℕ, zero, suc, ◌+◌, ◌-◌, ◌<◌, ◌≤◌, inl, inr, Bool, true, false, not, cond, List, [], ◌∷◌, ◌++◌, length, take, refl, sym, ◌∙◌, ap, subst, arith, Some, length-append}
use Rattle.std.specs.Prelude.{slice_get}
use Rattle.std.specs.List.{filter}
use Rattle.std.proofs.lemmas.Bool.{cases_Bool, cases_lt, cases_order}
use Rattle.std.proofs.lemmas.List.{take_all}
use Rattle.std.proofs.lemmas.List.Filters.{length-filter_both, length-filter_more}
use Rattle.std.proofs.lemmas.Option.{slice_get_within, slice_get_past, slice_get_cases, get_or_from_slice_get}
use Rattle.lalrpop_collections.specs.Words.{rank, fails, parted, parted_place, new_place, ArePlaces}
use Rattle.lalrpop_collections.proofs.theory.lists.Places.{same_some, slice_get-longer, slice_get-append_before, slice_get-push_at, slice_get-append_behind}

-- ---- the number of the first elements that pass
module _ {X : Type 0} (p : X → Bool) where
  counted_first : (x : X) (xs : List X) → length (filter p (x ∷ xs)) ≡ cond (p x) 1 0 + length (filter p xs)
  counted_first x xs = go (p x)
    where
      go : (b : Bool) → length (cond b (x ∷ filter p xs) (filter p xs)) ≡ cond b 1 0 + length (filter p xs)
      go true = omega arith
      go false = omega arith

  rank_more : (xs : List X) (i j : ℕ) → i ≤ j → rank p xs i ≤ rank p xs j
  rank_more xs zero j l = omega arith
  rank_more [] (suc i) j l = omega arith
  rank_more (x ∷ xs) (suc i) zero l = absurd (omega arith)
  rank_more (x ∷ xs) (suc i) (suc j) l =
      let a = counted_first x (take i xs) in
      let b = counted_first x (take j xs) in
      let m = rank_more xs i j (omega arith) in
      omega arith

  pub rank_next : (xs : List X) (i : ℕ) (x : X) → slice_get xs i ≡ Some x → rank p xs (i + 1) ≡ rank p xs i + cond (p x) 1 0
  rank_next xs i x at =
      length-filter_more p xs i x (slice_get_within xs i x at) ∙ ap (λ y. rank p xs i + cond (p y) 1 0) (get_or_from_slice_get xs i x x at)

  rank_passed : (xs : List X) (i : ℕ) (x : X) → slice_get xs i ≡ Some x → p x ≡ true → rank p xs (i + 1) ≡ rank p xs i + 1
  rank_passed xs i x at h = rank_next xs i x at ∙ ap (λ b. rank p xs i + cond b 1 0) h

  pub rank_less : (xs : List X) (i j : ℕ) (x : X) → slice_get xs i ≡ Some x → p x ≡ true → i < j → rank p xs i < rank p xs j
  rank_less xs i j x at h l = let a = rank_passed xs i x at h in let m = rank_more xs (i + 1) j (omega arith) in omega arith

  pub rank_below : (xs : List X) (i : ℕ) (x : X) → slice_get xs i ≡ Some x → p x ≡ true → rank p xs i < length (filter p xs)
  rank_below xs i x at h =
      let all : rank p xs (length xs) ≡ length (filter p xs) = ap (λ ys. length (filter p ys)) (take_all (length xs) xs (omega arith)) in
      let l = rank_less xs i (length xs) x at h (slice_get_within xs i x at) in
      omega arith

  pub rank_within : (xs : List X) (i : ℕ) → i ≤ length xs → rank p xs i ≤ length (filter p xs)
  rank_within xs i l =
      let all : rank p xs (length xs) ≡ length (filter p xs) = ap (λ ys. length (filter p ys)) (take_all (length xs) xs (omega arith)) in
      let m = rank_more xs i (length xs) l in
      omega arith

  -- among the elements that pass, an element comes after those that pass before it
  pub ranked_place : (xs : List X) (k : ℕ) (x : X) → slice_get xs k ≡ Some x → p x ≡ true → slice_get (filter p xs) (rank p xs k) ≡ Some x
  ranked_place [] k x at h = cc
  ranked_place (y ∷ xs) zero x at h =
      let same : y ≡ x = same_some y x at in
      ap (λ b. slice_get (cond b (y ∷ filter p xs) (filter p xs)) 0) (ap p same ∙ h) ∙ ap Some same
  ranked_place (y ∷ xs) (suc k) x at h = go (ranked_place xs k x at h) (p y)
    where
      go : slice_get (filter p xs) (rank p xs k) ≡ Some x → (b : Bool) → slice_get (cond b (y ∷ filter p xs) (filter p xs)) (length (cond b (y ∷ filter p (take k xs)) (filter p (take k xs)))) ≡ Some x
      go later true = later
      go later false = later

  -- the element at a place among those that pass
  pub record Picked (xs : List X) (i : ℕ) : Type 0 where
    pub place : ℕ
    pub element : X
    pub there : slice_get xs place ≡ Some element
    pub passes : p element ≡ true
    pub ranked : rank p xs place ≡ i

  picked_at : (x : X) (xs : List X) (i : ℕ) (b : Bool) → p x ≡ b → i < cond b 1 0 + length (filter p xs) → ((j : ℕ) → j < length (filter p xs) → Picked xs j) → Picked (x ∷ xs) i
  picked_at x xs zero true e l later = record { place = 0; element = x; there = refl; passes = e; ranked = refl }
  picked_at x xs (suc i) true e l later =
      let r = later i (omega arith) in
      let a = counted_first x (take r.place xs) in
      let b : length (filter p (x ∷ take r.place xs)) ≡ 1 + rank p xs r.place = a ∙ ap (λ c. cond c 1 0 + rank p xs r.place) e in
      let c = r.ranked in
      record { place = suc r.place; element = r.element; there = r.there; passes = r.passes; ranked = omega arith }
  picked_at x xs i false e l later =
      let r = later i (omega arith) in
      let a = counted_first x (take r.place xs) in
      let b : length (filter p (x ∷ take r.place xs)) ≡ 0 + rank p xs r.place = a ∙ ap (λ c. cond c 1 0 + rank p xs r.place) e in
      let c = r.ranked in
      record { place = suc r.place; element = r.element; there = r.there; passes = r.passes; ranked = omega arith }

  pub picked : (xs : List X) (i : ℕ) → i < length (filter p xs) → Picked xs i
  picked [] i l = absurd (omega arith)
  picked (x ∷ xs) i l = let a = counted_first x xs in picked_at x xs i (p x) refl (omega arith) (picked xs)

-- ---- the new place of each element
module _ {X : Type 0} (p : X → Bool) (xs : List X) where
  passed : (x : X) → p x ≡ false → fails p x ≡ true
  passed x h = ap not h

  pub front_place : (k : ℕ) (x : X) → slice_get xs k ≡ Some x → p x ≡ true → new_place p xs k ≡ rank p xs k
  front_place k x at h = ap (parted_place p xs k) at ∙ ap (λ b. cond b (rank p xs k) (length (filter p xs) + rank (fails p) xs k)) h

  pub back_place : (k : ℕ) (x : X) → slice_get xs k ≡ Some x → p x ≡ false → new_place p xs k ≡ length (filter p xs) + rank (fails p) xs k
  back_place k x at h = ap (parted_place p xs k) at ∙ ap (λ b. cond b (rank p xs k) (length (filter p xs) + rank (fails p) xs k)) h

  pub past_place : (k : ℕ) → length xs ≤ k → new_place p xs k ≡ k
  past_place k l = ap (parted_place p xs k) (slice_get_past xs k l)

  pub parted_length : length (parted p xs) ≡ length xs
  parted_length = length-append (filter p xs) (filter (fails p) xs) ∙ length-filter_both p (fails p) (λ x. refl) xs

  pub parted_lengths : length (filter p xs) + length (filter (fails p) xs) ≡ length xs
  parted_lengths = length-filter_both p (fails p) (λ x. refl) xs

  pub stands_there : (k : ℕ) (x : X) → slice_get xs k ≡ Some x → slice_get (parted p xs) (new_place p xs k) ≡ Some x
  stands_there k x at = elim (cases_Bool (p x)) [
    | inl t ↦ ap (slice_get (parted p xs)) (front_place k x at t) ∙ slice_get-longer (filter p xs) (filter (fails p) xs) (rank p xs k) x (ranked_place p xs k x at t)
    | inr f ↦ ap (slice_get (parted p xs)) (back_place k x at f) ∙ slice_get-append_behind (filter p xs) (filter (fails p) xs) (rank (fails p) xs k) ∙ ranked_place (fails p) xs k x at (passed x f)
  ]

  pub place_within : (k : ℕ) → k < length xs → new_place p xs k < length xs
  place_within k l = elim ((slice_get_cases xs k).1) [
    | inl at ↦
        let w = slice_get_within (parted p xs) (new_place p xs k) at.0 (stands_there k at.0 at.2) in
        let n = parted_length in
        omega arith
    | inr past ↦ absurd (let m = past.0 in omega arith)
  ]

  -- the elements that pass come before the others
  pub front_before_back : (j k : ℕ) (x y : X) → slice_get xs j ≡ Some x → slice_get xs k ≡ Some y → p x ≡ true → p y ≡ false → new_place p xs j < new_place p xs k
  front_before_back j k x y at_j at_k t f = let a = front_place j x at_j t in let b = back_place k y at_k f in let l = rank_below p xs j x at_j t in omega arith

  -- each part keeps its order
  pub parts_keep_order : (j k : ℕ) (x y : X) → slice_get xs j ≡ Some x → slice_get xs k ≡ Some y → p x ≡ p y → j < k → new_place p xs j < new_place p xs k
  parts_keep_order j k x y at_j at_k same l = elim (cases_Bool (p x)) [
    | inl t ↦ let a = front_place j x at_j t in let b = front_place k y at_k (sym same ∙ t) in let m = rank_less p xs j k x at_j t l in omega arith
    | inr f ↦ let a = back_place j x at_j f in let b = back_place k y at_k (sym same ∙ f) in let m = rank_less (fails p) xs j k x at_j (passed x f) l in omega arith
  ]

  -- no two elements have the same new place
  apart_inside : (j k : ℕ) (x y : X) → slice_get xs j ≡ Some x → slice_get xs k ≡ Some y → j < k → new_place p xs j ≡ new_place p xs k → ⊥
  apart_inside j k x y at_j at_k l e = go (p x) (p y) refl refl
    where
      go : (b c : Bool) → p x ≡ b → p y ≡ c → ⊥
      go true true h i = let m = parts_keep_order j k x y at_j at_k (h ∙ sym i) l in omega arith
      go false false h i = let m = parts_keep_order j k x y at_j at_k (h ∙ sym i) l in omega arith
      go true false h i = let m = front_before_back j k x y at_j at_k h i in omega arith
      go false true h i = let m = front_before_back k j y x at_k at_j i h in omega arith

  apart : (j k : ℕ) → j < k → new_place p xs j ≡ new_place p xs k → ⊥
  apart j k l e = elim ((slice_get_cases xs j).1) [
    | inl at_j ↦ elim ((slice_get_cases xs k).1) [
      | inl at_k ↦ apart_inside j k at_j.0 at_k.0 at_j.2 at_k.2 l e
      | inr past ↦ let w = place_within j at_j.1 in let q = past_place k past.0 in let m = past.0 in omega arith
    ]
    | inr past ↦ let m = past.0 in let a = past_place j past.0 in let b = past_place k (omega arith) in omega arith
  ]

  pub places_differ : (j k : ℕ) → new_place p xs j ≡ new_place p xs k → j ≡ k
  places_differ j k e = elim (cases_order j k) [
    | inl same ↦ same
    | inr l ↦ elim l [ inl less ↦ absurd (apart j k less e) | inr more ↦ absurd (apart k j more (sym e)) ]
  ]

  -- each place is taken
  pub place_taken : (i : ℕ) → (k : ℕ) × (new_place p xs k ≡ i)
  place_taken i = elim (cases_lt i (length (filter p xs))) [
    | inl front ↦
        let r = picked p xs i front in
        (r.place, front_place r.place r.element r.there r.passes ∙ r.ranked)
    | inr behind ↦ elim (cases_lt i (length xs)) [
      | inl back ↦ taken_behind behind back
      | inr past ↦ (i, past_place i past)
    ]
  ]
    where
      failed : (x : X) (b : Bool) → p x ≡ b → not b ≡ true → p x ≡ false
      failed x true e h = cc
      failed x false e h = e

      taken_behind : length (filter p xs) ≤ i → i < length xs → (k : ℕ) × (new_place p xs k ≡ i)
      taken_behind m l =
          let both = parted_lengths in
          let r = picked (fails p) xs (i - length (filter p xs)) (omega arith) in
          let ranked = r.ranked in
          let at = back_place r.place r.element r.there (failed r.element (p r.element) refl r.passes) in
          (r.place, omega arith)

  -- ---- the new places, in turn
  pub front_more : (i : ℕ) (x : X) → slice_get xs i ≡ Some x → (old new : ℕ) → old ≡ rank p xs i → new ≡ cond (p x) (old + 1) old → new ≡ rank p xs (i + 1)
  front_more i x at old new e f = f ∙ counted_on (p x) old ∙ ap (λ n. n + cond (p x) 1 0) e ∙ sym (rank_next p xs i x at)
    where
      counted_on : (b : Bool) (n : ℕ) → cond b (n + 1) n ≡ n + cond b 1 0
      counted_on true n = refl
      counted_on false n = omega arith

  pub back_more : (i : ℕ) (x : X) → slice_get xs i ≡ Some x → (old new : ℕ) → old ≡ length (filter p xs) + rank (fails p) xs i → new ≡ cond (p x) old (old + 1) → new ≡ length (filter p xs) + rank (fails p) xs (i + 1)
  back_more i x at old new e f =
      let r = rank_next (fails p) xs i x at in
      let k : cond (p x) old (old + 1) ≡ old + cond (fails p x) 1 0 = counted_back (p x) old in
      omega arith
    where
      counted_back : (b : Bool) (n : ℕ) → cond b n (n + 1) ≡ n + cond (not b) 1 0
      counted_back true n = omega arith
      counted_back false n = refl

  pub Places-none : (places : List ℕ) → places ≡ [] → ArePlaces p xs 0 places
  Places-none places e = record { counted = ap length e; each = λ k l. absurd (omega arith) }

  next_place : (i : ℕ) (x : X) (front back number : ℕ) → slice_get xs i ≡ Some x → front ≡ rank p xs i → back ≡ length (filter p xs) + rank (fails p) xs i → number ≡ cond (p x) front back → number ≡ new_place p xs i
  next_place i x front back number at f b e =
      e ∙ ap (λ n. cond (p x) n back) f ∙ ap (λ n. cond (p x) (rank p xs i) n) b ∙ sym (ap (parted_place p xs i) at)

  pub Places-more : (i : ℕ) (x : X) (front back : ℕ) (places more : List ℕ) → slice_get xs i ≡ Some x → front ≡ rank p xs i → back ≡ length (filter p xs) + rank (fails p) xs i → ArePlaces p xs i places → more ≡ places ++ cond (p x) front back ∷ [] → ArePlaces p xs (i + 1) more
  Places-more i x front back places more at f b h e =
      subst (ArePlaces p xs (i + 1)) (sym e) (record {
        counted = length-append places (cond (p x) front back ∷ []) ∙ ap (λ n. n + 1) h.counted;
        each = λ k l. elim (cases_lt k i) [
          | inl before ↦ slice_get-append_before places (cond (p x) front back ∷ []) k (let n = h.counted in omega arith) ∙ h.each k before
          | inr here ↦
              let same : k ≡ i = omega arith in
              let end : k ≡ length places = same ∙ sym h.counted in
              ap (slice_get (places ++ cond (p x) front back ∷ [])) end ∙ slice_get-push_at places (cond (p x) front back)
              ∙ ap Some (next_place i x front back (cond (p x) front back) at f b refl) ∙ ap (λ n. Some (new_place p xs n)) (sym same)
        ];
      })

-- Stacks with the newest last, read from their end.
use Rattle.std.proofs.Common.{◌≡◌, ℕ, zero, suc, ◌+◌, ◌-◌, ◌<◌, ◌≤◌, ⊎_elim, List, [], ◌∷◌, ◌++◌, length, take, drop, map, reverse, get_or, refl, sym, ap, ap₂, ◌∙◌, arith}
use Rattle.std.proofs.lemmas.Bool.{cases_lt}
use Rattle.std.proofs.lemmas.List.{drop-map, get_or-reverse, get_or_past, length-reverse, reverse-append}
use Rattle.lalrpop_parser.proofs.theory.runs.Popping.{without}

module _ {A : Type 0} where
  -- the element under the newest n of a list with the newest first; with x before all others
  abbrev pub under : ℕ → A → List A → A
  under zero x ys = x
  under (suc n) x [] = x
  under (suc n) x (y ∷ ys) = under n y ys

  dropped : (n : ℕ) (x : A) (ys : List A) → n ≤ length ys → drop n (x ∷ ys) ≡ under n x ys ∷ drop n ys
  dropped zero x ys l = refl
  dropped (suc n) x [] l = absurd (omega (arith, l))
  dropped (suc n) x (y ∷ ys) l = dropped n y ys (omega (arith, l))

  under_more : (k : ℕ) (x d : A) (ys : List A) → k < length ys → under (suc k) x ys ≡ get_or ys k d
  under_more k x d [] l = absurd (omega (arith, l))
  under_more zero x d (y ∷ ys) l = refl
  under_more (suc k) x d (y ∷ ys) l = under_more k y d ys (omega (arith, l))

  -- the element under the newest ones is found by its place, or is x if none is newer
  pub under_at : (xs : List A) (x : A) (rest : ℕ) → rest ≤ length xs → get_or xs rest x ≡ under (length xs - rest) x (reverse xs)
  under_at xs x rest l = ⊎_elim
      (λ within.
      let k = length xs - 1 - rest in
      let few : k < length xs = omega (arith, within) in
      let turned : k < length (reverse xs) = let e = length-reverse xs in omega (arith, few, e) in
      let place : length xs - 1 - k ≡ rest = omega (arith, within) in
      let count : suc k ≡ length xs - rest = omega (arith, within) in
      ap (λ n. get_or xs n x) (sym place) ∙ sym (get_or-reverse xs k x few) ∙ sym (under_more k x x (reverse xs) turned) ∙ ap (λ n. under n x (reverse xs)) count)
      (λ past.
      let none : 0 ≡ length xs - rest = omega (arith, past) in
      get_or_past xs rest x past ∙ ap (λ n. under n x (reverse xs)) none)
      (cases_lt rest (length xs))

  -- a stack without its newest elements, with x as the newest of all
  pub left : {B : Type 0} (f : A → B) (xs : List A) (x : A) (rest : ℕ) → rest ≤ length xs → drop (length xs - rest) (f x ∷ map f (reverse xs)) ≡ f (get_or xs rest x) ∷ map f (reverse (take rest xs))
  left f xs x rest l =
      let n = length xs - rest in
      let few : n ≤ length xs = omega arith in
      let turned : n ≤ length (reverse xs) = let e = length-reverse xs in omega (arith, few, e) in
      let back : length xs - n ≡ rest = omega (arith, l) in
      drop-map f n (x ∷ reverse xs)
      ∙ ap (map f) (dropped n x (reverse xs) turned)
      ∙ ap₂ (λ y ys. f y ∷ map f ys) (sym (under_at xs x rest l)) (without n xs few ∙ ap (λ k. reverse (take k xs)) back)

  -- one more element on a stack
  pub pushed : {B : Type 0} (f : A → B) (xs : List A) (x : A) → map f (reverse (xs ++ x ∷ [])) ≡ f x ∷ map f (reverse xs)
  pushed f xs x = ap (map f) (reverse-append xs (x ∷ []))

  -- a list up to an element, and with it
  pub with_entry : (xs : List A) (rest : ℕ) (x : A) → rest < length xs → take (rest + 1) xs ≡ take rest xs ++ get_or xs rest x ∷ []
  with_entry [] rest x l = absurd (omega (arith, l))
  with_entry (y ∷ ys) zero x l = refl
  with_entry (y ∷ ys) (suc rest) x l =
      let more : suc rest + 1 ≡ suc (rest + 1) = omega arith in
      ap (λ n. take n (y ∷ ys)) more ∙ ap (λ zs. y ∷ zs) (with_entry ys rest x (omega (arith, l)))

  -- a whole list
  pub take_whole : (xs : List A) (rest : ℕ) → length xs ≤ rest → take rest xs ≡ xs
  take_whole [] zero l = refl
  take_whole [] (suc rest) l = refl
  take_whole (y ∷ ys) zero l = absurd (omega (arith, l))
  take_whole (y ∷ ys) (suc rest) l = ap (λ zs. y ∷ zs) (take_whole ys rest (omega (arith, l)))

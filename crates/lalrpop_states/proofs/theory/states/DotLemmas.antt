-- Lists of dotted productions that are compared one by one.
use Rattle.std.proofs.Common.{◌≡◌, ℕ, zero, suc, ◌+◌, ◌<◌, List, [], ◌∷◌, length, get_or, refl, sym, ◌∙◌, ap, arith, ⊎_elim}
use Rattle.std.specs.Prelude.{slice_get, Some}
use Rattle.std.proofs.lemmas.Bool.{cases_lt}
use Rattle.lalrpop_collections.proofs.theory.lists.EachLemmas.{same_at}
use Rattle.lalrpop_states.specs.Words.{dots, dotted_of, Dotted}
use Rattle.lalrpop_states.proofs.Types.{Production}

-- the lists have the same dotted production at each index below a number
abbrev pub AgreeBelow : {L : Type 0} → List (Dotted L) → List (Dotted L) → ℕ → Type 0
AgreeBelow {L} a b n = (k : ℕ) (x y : Dotted L) → k < n → slice_get a k ≡ Some x → slice_get b k ≡ Some y → (x.production ≡ y.production) × (x.index ≡ y.index)

abbrev pair : Production → ℕ → Production × ℕ
pair p n = (p, n)

module _ {L : Type 0} where
  same_dot : (x y : Dotted L) → (x.production ≡ y.production) × (x.index ≡ y.index) → dotted_of x ≡ dotted_of y
  same_dot x y h = ap (λ (p : Production). pair p x.index) h.0 ∙ ap (λ (n : ℕ). pair y.production n) h.1

  pub dots_agree : (a b : List (Dotted L)) → length a ≡ length b → AgreeBelow a b (length a) → dots a ≡ dots b
  dots_agree [] [] l e = refl
  dots_agree [] (y ∷ ys) l e = absurd (omega arith)
  dots_agree (x ∷ xs) [] l e = absurd (omega arith)
  dots_agree (x ∷ xs) (y ∷ ys) l e =
      let first : dotted_of x ≡ dotted_of y = same_dot x y (e 0 x y (omega arith) refl refl) in
      let rest : dots xs ≡ dots ys = dots_agree xs ys (omega arith) (λ k p q less. e (suc k) p q (omega arith)) in
      ap (λ (d : Production × ℕ). d ∷ dots xs) first ∙ ap (λ (ds : List (Production × ℕ)). dotted_of y ∷ ds) rest

  -- the lists agree below one index more
  pub agree_more : (a b : List (Dotted L)) (i : ℕ) (x y : Dotted L) → i < length a → x ≡ get_or a i x → i < length b → y ≡ get_or b i y → (x.production ≡ y.production) × (x.index ≡ y.index) → AgreeBelow a b i → AgreeBelow a b (i + 1)
  agree_more a b i x y la is_a lb is_b same below k u v less at_u at_v =
      ⊎_elim (λ before. below k u v before at_u at_v)
      (λ here.
      let place : i ≡ k = omega arith in
      let there_u : slice_get a i ≡ Some u = rw place at_u in
      let there_v : slice_get b i ≡ Some v = rw place at_v in
      let is_u : u ≡ x = same_at a i x u la is_a there_u in
      let is_v : v ≡ y = same_at b i y v lb is_b there_v in
      let production : u.production ≡ v.production = ap (λ (d : Dotted L). d.production) is_u ∙ same.0 ∙ sym (ap (λ (d : Dotted L). d.production) is_v) in
      let index : u.index ≡ v.index = ap (λ (d : Dotted L). d.index) is_u ∙ same.1 ∙ sym (ap (λ (d : Dotted L). d.index) is_v) in
      (production, index))
      (cases_lt k i)

  pub agree_of_dots : (a b : List (Dotted L)) → dots a ≡ dots b → (k : ℕ) (x y : Dotted L) → slice_get a k ≡ Some x → slice_get b k ≡ Some y → (x.production ≡ y.production) × (x.index ≡ y.index)
  agree_of_dots [] b e k x y at_a at_b = let none : ⊥ = cc in absurd none
  agree_of_dots (u ∷ us) [] e k x y at_a at_b = let none : ⊥ = cc in absurd none
  agree_of_dots (u ∷ us) (v ∷ vs) e zero x y at_a at_b =
      let same_a : u ≡ x = cc in
      let same_b : v ≡ y = cc in
      let heads : dotted_of u ≡ dotted_of v = cc in
      let production : u.production ≡ v.production = ap (λ (d : Production × ℕ). d.0) heads in
      let index : u.index ≡ v.index = ap (λ (d : Production × ℕ). d.1) heads in
      (rw (← same_a, ← same_b) production, rw (← same_a, ← same_b) index)
  agree_of_dots (u ∷ us) (v ∷ vs) e (suc k) x y at_a at_b = let rest : dots us ≡ dots vs = cc in agree_of_dots us vs rest k x y at_a at_b

-- Numbers by first appearance, with one value more.
use Rattle.std.proofs.Common.{◌≡◌, ℕ, zero, suc, ◌+◌, ◌<◌, ◌⊎◌, inl, inr, List, [], ◌∷◌, ◌++◌, length, map, refl, sym, ap, ◌∙◌, subst, arith, Option, Some, None, option_map, length-append}
use Rattle.std.specs.Prelude.{slice_get}
use Rattle.std.proofs.lemmas.Option.{slice_get_within, slice_get-map}
use Rattle.lalrpop_base.specs.Words.{Dotted, AllDiffer, AreFirstNumbers, bare}
use Rattle.lalrpop_tables.proofs.Types.{Nil, Production}
use Rattle.lalrpop_collections.proofs.theory.lists.Places.{same_some, slice_get-longer, slice_get-push_at, push_cases, one_place}

module _ {X : Type 0} where
  -- the numbers of the values are their places in the list, which has each value once, by first
  -- appearance
  pub record AreListed (xs : List X) (numbers : List ℕ) (list : List X) : Type 0 where
    pub counted : length numbers ≡ length xs
    pub found : (n m : ℕ) → slice_get numbers n ≡ Some m → (x : X) × (slice_get xs n ≡ Some x) × (slice_get list m ≡ Some x)
    pub differ : AllDiffer list
    pub first : (n m earlier : ℕ) → slice_get numbers n ≡ Some m → earlier < m → (k : ℕ) × (k < n) × (slice_get numbers k ≡ Some earlier)
    pub each : (m : ℕ) → m < length list → (k : ℕ) × (slice_get numbers k ≡ Some m)

  pub Listed-none : (numbers : List ℕ) (list : List X) → numbers ≡ [] → list ≡ [] → AreListed [] numbers list
  Listed-none numbers list e f = subst (λ (ns : List ℕ). AreListed [] ns list) (sym e) (subst (λ (ys : List X). AreListed [] [] ys) (sym f) (record {
    counted = refl;
    found = λ n m at. cc;
    differ = λ i j x l at. cc;
    first = λ n m earlier at. cc;
    each = λ m l. absurd (omega arith);
  }))

  module _ (xs : List X) (numbers : List ℕ) (list new : List X) (x : X) (m : ℕ) (known : AreListed xs numbers list) (grown : (new ≡ list) ⊎ (new ≡ list ++ x ∷ [])) (at : slice_get new m ≡ Some x) (differ : AllDiffer new) where
    abbrev numbers_more : List ℕ
    numbers_more = numbers ++ m ∷ []

    stays : (k : ℕ) (y : X) → slice_get list k ≡ Some y → slice_get new k ≡ Some y
    stays k y h = elim grown [
      | inl e ↦ ap (λ (ys : List X). slice_get ys k) e ∙ h
      | inr e ↦ ap (λ (ys : List X). slice_get ys k) e ∙ slice_get-longer list (x ∷ []) k y h
    ]

    longer : (length new ≡ length list) ⊎ (length new ≡ length list + 1)
    longer = elim grown [
      | inl e ↦ inl (ap length e)
      | inr e ↦ inr (ap length e ∙ length-append list (x ∷ []))
    ]

    found : (n k : ℕ) → slice_get numbers_more n ≡ Some k → (y : X) × (slice_get (xs ++ x ∷ []) n ≡ Some y) × (slice_get new k ≡ Some y)
    found n k h = elim (push_cases numbers m n k h) [
      | inl old ↦ let f = known.found n k old in (f.0, slice_get-longer xs (x ∷ []) n f.0 f.1, stays k f.0 f.2)
      | inr last ↦ (x, ap (slice_get (xs ++ x ∷ [])) (last.0 ∙ known.counted) ∙ slice_get-push_at xs x, ap (slice_get new) (sym last.1) ∙ at)
    ]

    first : (n k earlier : ℕ) → slice_get numbers_more n ≡ Some k → earlier < k → (j : ℕ) × (j < n) × (slice_get numbers_more j ≡ Some earlier)
    first n k earlier h l = elim (push_cases numbers m n k h) [
      | inl old ↦ let f = known.first n k earlier old l in (f.0, f.1, slice_get-longer numbers (m ∷ []) f.0 earlier f.2)
      | inr last ↦
          let within : m < length new = slice_get_within new m x at in
          let same : m ≡ k = last.1 in
          let below : earlier < length list = elim longer [ inl e ↦ omega arith | inr e ↦ omega arith ] in
          let f = known.each earlier below in
          let place : f.0 < length numbers = slice_get_within numbers f.0 earlier f.1 in
          let end : n ≡ length numbers = last.0 in
          (f.0, omega arith, slice_get-longer numbers (m ∷ []) f.0 earlier f.1)
    ]

    each : (k : ℕ) → k < length new → (j : ℕ) × (slice_get numbers_more j ≡ Some k)
    each k l = elim grown [
      | inl e ↦ let le : length new ≡ length list = ap length e in let f = known.each k (omega arith) in (f.0, slice_get-longer numbers (m ∷ []) f.0 k f.1)
      | inr e ↦
          let le : length new ≡ length list + 1 = ap length e ∙ length-append list (x ∷ []) in
          elim (le_cases k (length list) (omega arith)) [
            | inl below ↦ let f = known.each k below in (f.0, slice_get-longer numbers (m ∷ []) f.0 k f.1)
            | inr last ↦
                let there : slice_get new (length list) ≡ Some x = ap (λ (ys : List X). slice_get ys (length list)) e ∙ slice_get-push_at list x in
                let same : m ≡ k = one_place new differ m (length list) x at there ∙ sym last in
                (length numbers, ap (λ (j : ℕ). slice_get (numbers ++ j ∷ []) (length numbers)) same ∙ slice_get-push_at numbers k)
          ]
    ]
      where
        le_cases : (a b : ℕ) → a < b + 1 → (a < b) ⊎ (a ≡ b)
        le_cases zero zero l = inr refl
        le_cases zero (suc b) l = inl (omega arith)
        le_cases (suc a) zero l = absurd (omega arith)
        le_cases (suc a) (suc b) l = elim (le_cases a b (omega arith)) [ inl below ↦ inl (omega arith) | inr e ↦ inr (ap suc e) ]

    pub Listed-more : (all : List X) (ns : List ℕ) → all ≡ xs ++ x ∷ [] → ns ≡ numbers ++ m ∷ [] → AreListed all ns new
    Listed-more all ns e f = subst (λ (ys : List X). AreListed ys ns new) (sym e) (subst (λ (ks : List ℕ). AreListed (xs ++ x ∷ []) ks new) (sym f) (record {
      counted = let c = known.counted in omega (arith, length-append numbers (m ∷ []), length-append xs (x ∷ []));
      found = found;
      differ = differ;
      first = first;
      each = each;
    }))

  number_there : (xs : List X) (numbers : List ℕ) → length numbers ≡ length xs → (n : ℕ) (x : X) → slice_get xs n ≡ Some x → (m : ℕ) × (slice_get numbers n ≡ Some m)
  number_there [] numbers e n x at = cc
  number_there (y ∷ xs) [] e n x at = absurd (omega arith)
  number_there (y ∷ xs) (m ∷ numbers) e zero x at = (m, refl)
  number_there (y ∷ xs) (m ∷ numbers) e (suc n) x at = number_there xs numbers (omega arith) n x at

  pub Listed-numbers : (xs : List X) (numbers : List ℕ) (list : List X) → AreListed xs numbers list → AreFirstNumbers xs numbers
  Listed-numbers xs numbers list a = record {
    counted = a.counted;
    same = λ n m x at_n at_m.
        let p = number_there xs numbers a.counted n x at_n in
        let q = number_there xs numbers a.counted m x at_m in
        let f = a.found n p.0 p.1 in
        let g = a.found m q.0 q.1 in
        let here : f.0 ≡ x = same_some f.0 x (sym f.1 ∙ at_n) in
        let there : g.0 ≡ x = same_some g.0 x (sym g.1 ∙ at_m) in
        p.1 ∙ ap Some (one_place list a.differ p.0 q.0 x (f.2 ∙ ap Some here) (g.2 ∙ ap Some there)) ∙ sym q.1;
    apart = λ n m number at_n at_m.
        let f = a.found n number at_n in
        let g = a.found m number at_m in
        f.1 ∙ sym f.2 ∙ g.2 ∙ sym g.1;
    first = a.first;
  }

-- ---- values under a map that keeps different values different
pub mapped_numbers : {X Y : Type 0} (f : X → Y) → ((x y : X) → f x ≡ f y → x ≡ y) → (xs : List X) (numbers : List ℕ) → AreFirstNumbers (map f xs) numbers → AreFirstNumbers xs numbers
mapped_numbers {X} {Y} f apart xs numbers a = record {
  counted = a.counted ∙ length_map xs;
  same = λ n m x at_n at_m. a.same n m (f x) (slice_get-map f xs n ∙ ap (option_map f) at_n) (slice_get-map f xs m ∙ ap (option_map f) at_m);
  apart = λ n m number at_n at_m. same_options (slice_get xs n) (slice_get xs m) (sym (slice_get-map f xs n) ∙ a.apart n m number at_n at_m ∙ slice_get-map f xs m);
  first = a.first;
}
  where
    length_map : (ys : List X) → length (map f ys) ≡ length ys
    length_map [] = refl
    length_map (y ∷ ys) = ap suc (length_map ys)

    same_options : (o p : Option X) → option_map f o ≡ option_map f p → o ≡ p
    same_options None None e = refl
    same_options None (Some y) e = cc
    same_options (Some x) None e = cc
    same_options (Some x) (Some y) e = ap Some (apart x y (same_some (f x) (f y) e))

-- ---- dotted productions without tokens
dotted_bare : (ds : List (Production × ℕ)) → map (λ (i : Dotted Nil). (i.production, i.index)) (map bare ds) ≡ ds
dotted_bare [] = refl
dotted_bare (d ∷ ds) = ap (λ xs. d ∷ xs) (dotted_bare ds)

pub bare_apart : (ds es : List (Production × ℕ)) → map bare ds ≡ map bare es → ds ≡ es
bare_apart ds es e = sym (dotted_bare ds) ∙ ap (map (λ (i : Dotted Nil). (i.production, i.index))) e ∙ dotted_bare es

-- all values without tokens are equal
pub no_lookahead : (x y : Nil) → x ≡ y
no_lookahead x y = refl

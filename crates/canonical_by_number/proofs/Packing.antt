-- Items that are packed in numbers.
use Rattle.std.proofs.Common.{◌≡◌, ◌∙◌, ◌+◌, ◌*◌, ◌/◌, ◌%◌, ◌<◌, ℕ, List, [], ◌∷◌, drop, length, map, refl, sym, ap, Some}
use Rattle.std.specs.Prelude.{Contains, slice_get}
use Rattle.std.proofs.lemmas.Nat.{div-add-mod', div-mul-add, mod-mul-add}
use Rattle.std.proofs.lemmas.Option.{slice_get-map}
use Rattle.lalrpop_base.specs.Words.{AllDiffer, Bits}
use Rattle.lalrpop_collections.proofs.theory.lists.Lists.{some_of_map}
use Rattle.lalrpop_collections.proofs.theory.lists.Members.{contains_head, contains_tail}
use Rattle.lalrpop_collections.proofs.theory.lists.Places.{contains_at, same_some}
use Rattle.lalrpop_numbers.specs.declared.numbers.numbered.Numbered.{Numbered}
use Rattle.canonical_by_number.specs.TokenSets.{pair_of, set_at}
use Rattle.canonical_by_number.specs.Closures.{ArePackedIn, kernel_in, unpacked}
use Rattle.canonical_by_number.proofs.TokenSets.{one_number}

-- the parts of a pair
pub first_of_pair : (a b : ℕ) → b < 4294967296 → pair_of a b / 4294967296 ≡ a
first_of_pair a b l = div-mul-add a 4294967296 b l

pub second_of_pair : (a b : ℕ) → b < 4294967296 → pair_of a b % 4294967296 ≡ b
second_of_pair a b l = mod-mul-add a 4294967296 b l

-- a packed item is unpacked
pub unpacked_pair : (sets : List Bits) (a b : ℕ) → b < 4294967296 → unpacked sets (pair_of a b) ≡ record { number = a; lookahead = set_at sets b }
unpacked_pair sets a b l =
    let make : ℕ → ℕ → Numbered Bits = λ k s. record { number = k; lookahead = set_at sets s } in
    ap (λ (k : ℕ). make k (pair_of a b % 4294967296)) (first_of_pair a b l) ∙ ap (make a) (second_of_pair a b l)

module _ (sets : List Bits) (differ : AllDiffer sets) where
  -- numbers that are unpacked to the same item are the same
  same_unpacked : (d e : ℕ) → d % 4294967296 < length sets → e % 4294967296 < length sets → unpacked sets d ≡ unpacked sets e → d ≡ e
  same_unpacked d e l m same =
      let item : d / 4294967296 ≡ e / 4294967296 = ap (λ (i : Numbered Bits). i.number) same in
      let set : d % 4294967296 ≡ e % 4294967296 = one_number sets differ (d % 4294967296) (e % 4294967296) l m (ap (λ (i : Numbered Bits). i.lookahead) same) in
      sym (div-add-mod' d 4294967296) ∙ ap (λ (k : ℕ). k * 4294967296 + d % 4294967296) item ∙ ap (λ (k : ℕ). e / 4294967296 * 4294967296 + k) set ∙ div-add-mod' e 4294967296

  -- kernels of packed items are the same if they are unpacked to the same items
  pub same_kernel : (xs ys : List ℕ) → ArePackedIn sets xs → ArePackedIn sets ys → kernel_in sets xs ≡ kernel_in sets ys → xs ≡ ys
  same_kernel [] [] a b h = refl
  same_kernel [] (y ∷ ys) a b h = cc
  same_kernel (x ∷ xs) [] a b h = cc
  same_kernel (x ∷ xs) (y ∷ ys) a b h =
      let head : unpacked sets x ≡ unpacked sets y = same_some (unpacked sets x) (unpacked sets y) (ap (λ (l : List (Numbered Bits)). slice_get l 0) h) in
      let rest : kernel_in sets xs ≡ kernel_in sets ys = ap (λ (l : List (Numbered Bits)). drop 1 l) h in
      let first : x ≡ y = same_unpacked x y (a x (contains_head x xs)) (b y (contains_head y ys)) head in
      let others : xs ≡ ys = same_kernel xs ys (λ e c. a e (contains_tail x xs e c)) (λ e c. b e (contains_tail y ys e c)) rest in
      ap (λ (z : ℕ). z ∷ xs) first ∙ ap (λ (l : List ℕ). y ∷ l) others

  -- kernels that differ are unpacked to kernels that differ
  pub kernels_differ : (kernels : List (List ℕ)) → ((kernel : List ℕ) → Contains kernels kernel → ArePackedIn sets kernel) → AllDiffer kernels → AllDiffer (map (kernel_in sets) kernels)
  kernels_differ kernels packed each i j x l at_i at_j =
      let d = some_of_map (kernel_in sets) (slice_get kernels i) x (sym (slice_get-map (kernel_in sets) kernels i) ∙ at_i) in
      let e = some_of_map (kernel_in sets) (slice_get kernels j) x (sym (slice_get-map (kernel_in sets) kernels j) ∙ at_j) in
      let same : e.0 ≡ d.0 = same_kernel e.0 d.0 (packed e.0 (contains_at kernels e.0 j e.1)) (packed d.0 (contains_at kernels d.0 i d.1)) (e.2 ∙ sym d.2) in
      each i j d.0 l d.1 (e.1 ∙ ap Some same)

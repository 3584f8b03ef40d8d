-- Two ascending lists are ordered by the least number that exactly one of them has.
use Rattle.std.proofs.Common.{◌≡◌, ℕ, suc, ◌<◌, ◌≤◌, ⊎_elim, ◌==◌, Bool, true, false, ◌||◌, List, [], ◌∷◌, refl, sym, ◌∙◌, ap, subst, arith, eqb-true, eq-eqb, ne_eqb}
use Rattle.std.specs.declared.cmp.Ordering.TheVariants.{Less, Greater}
use Rattle.std.specs.Ordering.{nat_cmp, ordering_then, ordering_reverse}
use Rattle.std.specs.Cmp.Lexicographic.{slice_cmp}
use Rattle.std.proofs.lemmas.Cmp.{nat_list_cmp_total, nat_cmp_total, tied_itself}
use Rattle.std.proofs.lemmas.Bool.{cases_eq, cases_lt, cases_order, or_cases, or_parts, or_left, true≢false, lt-ltb, false_from_ne_true, true_from_ne_false}
use Rattle.lalrpop_collections.specs.lists.BitVectors.{has_bit, members_from, IsLeastApart}
use Rattle.lalrpop_collections.proofs.theory.sets.BitVectorLemmas.{among-members, members_rise}
use Rattle.lalrpop_collections.proofs.theory.lists.RisingLemmas.{RisesFrom, among, below_start}

clash : (b : Bool) → b ≡ true → b ≡ false → ⊥
clash b t f = true≢false (sym t ∙ f)

pub less_is : (x y : ℕ) → x < y → nat_cmp x y ≡ Less
less_is x y l = rw (lt-ltb x y l) refl

head_in : (x : ℕ) (xs : List ℕ) → among x (x ∷ xs) ≡ true
head_in x xs = or_left (x == x) (among x xs) (eq-eqb x x refl)

from_head : (b x : ℕ) (xs : List ℕ) → RisesFrom b (x ∷ xs) → RisesFrom x (x ∷ xs)
from_head b x xs up = (omega arith, up.1)

not_below : (b q : ℕ) (xs : List ℕ) → RisesFrom b xs → among q xs ≡ true → b ≤ q
not_below b q xs up t = ⊎_elim (λ l. absurd (clash (among q xs) t (below_start b q xs up l))) (λ l. l) (cases_lt q b)

-- the least number that exactly one list has is d, and the first list has it
module _ (d : ℕ) where
  pub record Differ (xs ys : List ℕ) : Type 0 where
    pub same : (q : ℕ) → q < d → among q xs ≡ among q ys
    pub here : among d xs ≡ true
    pub not_there : among d ys ≡ false

  lesser_head : (x y : ℕ) (xs ys : List ℕ) → RisesFrom y (y ∷ ys) → Differ (x ∷ xs) (y ∷ ys) → x < y → d ≤ x
  lesser_head x y xs ys up h l = ⊎_elim
      (λ low. absurd (clash (among x (y ∷ ys)) (sym (h.same x low) ∙ head_in x xs) (below_start y x (y ∷ ys) up l)))
      (λ high. high)
      (cases_lt x d)

  no_greater_head : (x y : ℕ) (xs ys : List ℕ) → RisesFrom x (x ∷ xs) → Differ (x ∷ xs) (y ∷ ys) → y < x → ⊥
  no_greater_head x y xs ys up h l = ⊎_elim
      (λ low. clash (among y (x ∷ xs)) (h.same y low ∙ head_in y ys) (below_start x y (x ∷ xs) up l))
      (λ high. clash (among d (x ∷ xs)) h.here (below_start x d (x ∷ xs) up (omega arith)))
      (cases_lt y d)

  other_head : (x y : ℕ) (xs ys : List ℕ) → x ≡ y → Differ (x ∷ xs) (y ∷ ys) → among d xs ≡ true
  other_head x y xs ys e h = ⊎_elim
      (λ t. absurd (clash (d == y) (ap (λ (m : ℕ). d == m) (sym e) ∙ t) (or_parts (d == y) (among d ys) h.not_there).0))
      (λ t. t)
      (or_cases (d == x) (among d xs) h.here)

  without_head : (x y : ℕ) (xs ys : List ℕ) → RisesFrom (suc x) xs → RisesFrom (suc y) ys → x ≡ y → Differ (x ∷ xs) (y ∷ ys) → Differ xs ys
  without_head x y xs ys up ups e h = record {
    same = λ q l. ⊎_elim
        (λ is. below_start (suc x) q xs up (omega arith) ∙ sym (below_start (suc y) q ys ups (omega arith)))
        (λ other.
        sym (ap (λ b. b || among q xs) (ne_eqb q x other))
        ∙ h.same q l
        ∙ ap (λ b. b || among q ys) (ne_eqb q y (λ f. other (f ∙ sym e))))
        (cases_eq q x);
    here = other_head x y xs ys e h;
    not_there = (or_parts (d == y) (among d ys) h.not_there).1;
  }

  equal_heads : (x y : ℕ) (xs ys : List ℕ) → x ≡ y → slice_cmp nat_cmp (x ∷ xs) (y ∷ ys) ≡ slice_cmp nat_cmp xs ys
  equal_heads x y xs ys e = ap (λ o. ordering_then o (slice_cmp nat_cmp xs ys)) (ap (nat_cmp x) (sym e) ∙ tied_itself nat_cmp_total x)

  lesser_heads : (x y : ℕ) (xs ys : List ℕ) → x < y → slice_cmp nat_cmp (x ∷ xs) (y ∷ ys) ≡ Less
  lesser_heads x y xs ys l = ap (λ o. ordering_then o (slice_cmp nat_cmp xs ys)) (less_is x y l)

  -- if the second list has a number above d, the first one is less
  pub goes_on : (b : ℕ) (xs ys : List ℕ) → RisesFrom b xs → RisesFrom b ys → Differ xs ys → (e : ℕ) → d < e → among e ys ≡ true → slice_cmp nat_cmp xs ys ≡ Less
  goes_on b [] ys up ups h e l t = absurd (true≢false (sym h.here))
  goes_on b (x ∷ xs) [] up ups h e l t = absurd (true≢false (sym t))
  goes_on b (x ∷ xs) (y ∷ ys) up ups h e l t = ⊎_elim
      (λ same.
      let rest = without_head x y xs ys up.1 ups.1 same h in
      let above = not_below (suc x) d xs up.1 rest.here in
      let later = ⊎_elim (λ at. absurd (omega (arith, eqb-true e y at, above, same))) (λ u. u) (or_cases (e == y) (among e ys) t) in
      equal_heads x y xs ys same ∙ goes_on (suc x) xs ys up.1 (subst (λ (m : ℕ). RisesFrom (suc m) ys) (sym same) ups.1) rest e l later)
      (⊎_elim (λ less. lesser_heads x y xs ys less) (λ more. absurd (no_greater_head x y xs ys (from_head b x xs up) h more)))
      (cases_order x y)

  -- if the second list has no number above d, it is a prefix, and less
  pub ends : (b : ℕ) (xs ys : List ℕ) → RisesFrom b xs → RisesFrom b ys → Differ xs ys → ((e : ℕ) → d < e → among e ys ≡ false) → slice_cmp nat_cmp xs ys ≡ Greater
  ends b [] ys up ups h none = absurd (true≢false (sym h.here))
  ends b (x ∷ xs) [] up ups h none = refl
  ends b (x ∷ xs) (y ∷ ys) up ups h none = ⊎_elim
      (λ same.
      let rest = without_head x y xs ys up.1 ups.1 same h in
      equal_heads x y xs ys same
      ∙ ends (suc x) xs ys up.1 (subst (λ (m : ℕ). RisesFrom (suc m) ys) (sym same) ups.1) rest (λ e l. (or_parts (e == y) (among e ys) (none e l)).1))
      (⊎_elim
      (λ less. absurd (clash (among y (y ∷ ys)) (head_in y ys) (none y (omega (arith, lesser_head x y xs ys (from_head b y ys ups) h less)))))
      (λ more. absurd (no_greater_head x y xs ys (from_head b x xs up) h more)))
      (cases_order x y)

-- two bit vectors are ordered by the numbers above the least difference, in the one without it
module _ (xs ys : List ℕ) (d : ℕ) where
  differ : IsLeastApart (has_bit xs) (has_bit ys) d → has_bit xs d ≡ true → Differ d (members_from xs 0) (members_from ys 0)
  differ h t = record {
    same = λ q l. among-members xs q ∙ h.same q l ∙ sym (among-members ys q);
    here = among-members xs d ∙ t;
    not_there = among-members ys d ∙ false_from_ne_true (has_bit ys d) (λ u. h.apart (t ∙ sym u));
  }

  pub order_less : IsLeastApart (has_bit xs) (has_bit ys) d → has_bit xs d ≡ true → (e : ℕ) → d < e → has_bit ys e ≡ true → slice_cmp nat_cmp (members_from xs 0) (members_from ys 0) ≡ Less
  order_less h t e l u = goes_on d 0 (members_from xs 0) (members_from ys 0) (members_rise xs) (members_rise ys) (differ h t) e l (among-members ys e ∙ u)

  pub order_greater : IsLeastApart (has_bit xs) (has_bit ys) d → has_bit xs d ≡ true → ((e : ℕ) → d < e → has_bit ys e ≡ false) → slice_cmp nat_cmp (members_from xs 0) (members_from ys 0) ≡ Greater
  order_greater h t none = ends d 0 (members_from xs 0) (members_from ys 0) (members_rise xs) (members_rise ys) (differ h t) (λ e l. among-members ys e ∙ none e l)

-- the least difference stays if the two are swapped, and one of the two has it
pub turned : (xs ys : List ℕ) (d : ℕ) → IsLeastApart (has_bit xs) (has_bit ys) d → IsLeastApart (has_bit ys) (has_bit xs) d
turned xs ys d h = record { apart = λ e. h.apart (sym e); same = λ k l. sym (h.same k l) }

pub other_has : (xs ys : List ℕ) (d : ℕ) → IsLeastApart (has_bit xs) (has_bit ys) d → has_bit xs d ≡ false → has_bit ys d ≡ true
other_has xs ys d h f = true_from_ne_false (has_bit ys d) (λ u. h.apart (f ∙ sym u))

pub cmp_turned : (xs ys : List ℕ) → slice_cmp nat_cmp xs ys ≡ ordering_reverse (slice_cmp nat_cmp ys xs)
cmp_turned xs ys = nat_list_cmp_total.antisymm xs ys

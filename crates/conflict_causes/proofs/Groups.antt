-- Numbers that are put into the group of their key, one after the other.
use Rattle.std.proofs.Common.{◌≡◌, ◌≢◌, ◌↔◌, ℕ, zero, suc, ◌+◌, ◌<◌, ◌⊎◌, inl, inr, List, [], ◌∷◌, ◌++◌, length, refl, sym, ◌∙◌, ap, subst, arith, length-append}
use Rattle.std.specs.Prelude.{set, slice_get, slice_index, Some, Contains}
use Rattle.std.proofs.lemmas.Bool.{cases_eq, cases_lt}
use Rattle.std.proofs.lemmas.List.{length-set}
use Rattle.std.proofs.lemmas.List.Elements.{Contains-append_left, Contains-append_right, Contains-append_cases, Contains-get_or}
use Rattle.std.proofs.lemmas.Option.{slice_get_within}
use Rattle.lalrpop_collections.specs.Words.{AllDiffer, EachItem, Ordered}
use Rattle.lalrpop_collections.proofs.theory.lists.Members.{Contains-none, contains_head, contains-cons}
use Rattle.lalrpop_collections.proofs.theory.lists.Places.{contains_at, one_place, push_cases, same_some, slice_get-append_before, slice_get-longer, slice_get-push_at}
use Rattle.conflict_causes.specs.Causes.{AreGroups}
use Rattle.conflict_causes.specs.Keys.{PutsInto}
use Rattle.conflict_causes.specs.Keys.PutsInto.{known, fresh}

-- ---- lists
set_at : {X : Type 0} (xs : List X) (n : ℕ) (y : X) → n < length xs → slice_get (set xs n y) n ≡ Some y
set_at [] n y l = absurd (omega arith)
set_at (x ∷ xs) zero y l = refl
set_at (x ∷ xs) (suc n) y l = set_at xs n y (omega arith)

set_beside : {X : Type 0} (xs : List X) (n : ℕ) (y : X) (m : ℕ) → m ≢ n → slice_get (set xs n y) m ≡ slice_get xs m
set_beside [] n y m ne = refl
set_beside (x ∷ xs) zero y zero ne = absurd (ne refl)
set_beside (x ∷ xs) zero y (suc m) ne = refl
set_beside (x ∷ xs) (suc n) y zero ne = refl
set_beside (x ∷ xs) (suc n) y (suc m) ne = set_beside xs n y m (λ e. ne (ap suc e))

-- the first of some numbers stays
first_kept : (group : List ℕ) (i : ℕ) → 0 < length group → slice_index (group ++ i ∷ []) 0 ≡ slice_index group 0
first_kept [] i l = absurd (omega arith)
first_kept (j ∷ group) i l = refl

abbrev Rises : List ℕ → Type 0
Rises group = Ordered (λ (i j : ℕ). i < j) group

rising_more : (group : List ℕ) (i : ℕ) → Rises group → ((j : ℕ) → Contains group j → j < i) → Rises (group ++ i ∷ [])
rising_more group i rising below a b x y l at_a at_b = elim (push_cases group i b y at_b) [
  | inl later ↦ rising a b x y l (before a x (omega (arith, l, slice_get_within group b y later)) at_a) later
  | inr last ↦
      let here : a < length group = omega (arith, l, last.0) in
      let less : x < i = below x (contains_at group x a (before a x here at_a)) in
      omega (arith, less, last.1)
]
  where
    before : (k z : ℕ) → k < length group → slice_get (group ++ i ∷ []) k ≡ Some z → slice_get group k ≡ Some z
    before k z k_within at_k = sym (slice_get-append_before group (i ∷ []) k k_within) ∙ at_k

-- ---- numbers by their keys
module _ {X K : Type 0} (P : X → K → Type 0) (xs : List X) where
  -- the numbers below the count are in the groups of their keys
  pub record AreKeyed (count : ℕ) (keys : List K) (groups : List (List ℕ)) : Type 0 where
    pub many : length groups ≡ length keys
    pub differ : AllDiffer keys
    pub each : (i : ℕ) → i < count → (n : ℕ) × (group : List ℕ) × (slice_get groups n ≡ Some group) × Contains group i
    pub keyed : (n i : ℕ) (group : List ℕ) → slice_get groups n ≡ Some group → Contains group i → (i < count) × ((x : X) × (k : K) × (slice_get xs i ≡ Some x) × (slice_get keys n ≡ Some k) × P x k)
    pub rising : EachItem Rises groups
    pub some : EachItem (λ group. 0 < length group) groups
    pub in_order : Ordered (λ a b. slice_index a 0 < slice_index b 0) groups

  -- each new group is an old one with perhaps one number more at its end
  ordered_as : (old new : List (List ℕ)) → EachItem (λ group. 0 < length group) old → ((n : ℕ) (b : List ℕ) → slice_get new n ≡ Some b → (a : List ℕ) × (slice_get old n ≡ Some a) × (slice_index b 0 ≡ slice_index a 0)) →
      Ordered (λ a b. slice_index a 0 < slice_index b 0) old → Ordered (λ a b. slice_index a 0 < slice_index b 0) new
  ordered_as old new some from ordered m n a b l at_m at_n =
      let first = from m a at_m in
      let second = from n b at_n in
      omega (arith, ordered m n first.0 second.0 l first.1 second.1, first.2, second.2)

  -- the next number, its element and its key
  module _ (count : ℕ) (x : X) (k : K) (there : slice_get xs count ≡ Some x) (is_key : P x k) where
    -- the key is known: the number is put to the end of its group
    module _ (keys : List K) (old : List (List ℕ)) (before : AreKeyed count keys old) (n : ℕ) (group : List ℕ) (at : slice_get old n ≡ Some group) (key_at : slice_get keys n ≡ Some k) where
      abbrev longer : List ℕ
      longer = group ++ count ∷ []

      abbrev after : List (List ℕ)
      after = set old n longer

      longer_at : slice_get after n ≡ Some longer
      longer_at = set_at old n longer (slice_get_within old n group at)

      -- a new group: the longer one, or one of the others
      case_of : (m : ℕ) (b : List ℕ) → slice_get after m ≡ Some b → ((m ≡ n) × (longer ≡ b)) ⊎ (slice_get old m ≡ Some b)
      case_of m b at_m = elim (cases_eq m n) [
        | inl e ↦ inl (e, same_some longer b (sym longer_at ∙ ap (slice_get after) (sym e) ∙ at_m))
        | inr ne ↦ inr (sym (set_beside old n longer m ne) ∙ at_m)
      ]

      below : (j : ℕ) → Contains group j → j < count
      below j c = (before.keyed n j group at c).0

      kept : (i : ℕ) → (m : ℕ) × (b : List ℕ) × (slice_get old m ≡ Some b) × Contains b i → (m : ℕ) × (b : List ℕ) × (slice_get after m ≡ Some b) × Contains b i
      kept i (m, b, at_m, c) = elim (cases_eq m n) [
        | inl e ↦
            let same : group ≡ b = same_some group b (sym at ∙ ap (slice_get old) (sym e) ∙ at_m) in
            (n, longer, longer_at, Contains-append_left group (count ∷ []) i (subst (λ (g : List ℕ). Contains g i) (sym same) c))
        | inr ne ↦ (m, b, set_beside old n longer m ne ∙ at_m, c)
      ]

      last : (m : ℕ) × (b : List ℕ) × (slice_get after m ≡ Some b) × Contains b count
      last = (n, longer, longer_at, Contains-append_right group (count ∷ []) count (contains_head count []))

      keyed_longer : (i : ℕ) → Contains longer i → (i < count + 1) × ((y : X) × (l : K) × (slice_get xs i ≡ Some y) × (slice_get keys n ≡ Some l) × P y l)
      keyed_longer i c = elim (Contains-append_cases group (count ∷ []) i c) [
        | inl earlier ↦ let old_key = before.keyed n i group at earlier in (omega (arith, old_key.0), old_key.1)
        | inr later ↦ elim (contains-cons count [] i later) [
          | inl e ↦ (omega (arith, e), (x, k, subst (λ (j : ℕ). slice_get xs j ≡ Some x) e there, key_at, is_key))
          | inr none ↦ absurd (Contains-none i none)
        ]
      ]

      keyed_after : (m i : ℕ) (b : List ℕ) → slice_get after m ≡ Some b → Contains b i → (i < count + 1) × ((y : X) × (l : K) × (slice_get xs i ≡ Some y) × (slice_get keys m ≡ Some l) × P y l)
      keyed_after m i b at_m c = elim (case_of m b at_m) [
        | inl here ↦
            let found = keyed_longer i (subst (λ (g : List ℕ). Contains g i) (sym here.1) c) in
            subst (λ (q : ℕ). (i < count + 1) × ((y : X) × (l : K) × (slice_get xs i ≡ Some y) × (slice_get keys q ≡ Some l) × P y l)) (sym here.0) found
        | inr other ↦ let old_key = before.keyed m i b other c in (omega (arith, old_key.0), old_key.1)
      ]

      from_old : (m : ℕ) (b : List ℕ) → slice_get after m ≡ Some b → (a : List ℕ) × (slice_get old m ≡ Some a) × (slice_index b 0 ≡ slice_index a 0)
      from_old m b at_m = elim (case_of m b at_m) [
        | inl here ↦ (group, ap (slice_get old) here.0 ∙ at, ap (λ (g : List ℕ). slice_index g 0) (sym here.1) ∙ first_kept group count (before.some n group at))
        | inr other ↦ (b, other, refl)
      ]

      rising_after : EachItem Rises after
      rising_after m b at_m = elim (case_of m b at_m) [
        | inl here ↦ subst Rises here.1 (rising_more group count (before.rising n group at) below)
        | inr other ↦ before.rising m b other
      ]

      some_after : EachItem (λ (b : List ℕ). 0 < length b) after
      some_after m b at_m = elim (case_of m b at_m) [
        | inl here ↦ let size : length b ≡ length group + 1 = ap length (sym here.1) ∙ length-append group (count ∷ []) in omega arith
        | inr other ↦ before.some m b other
      ]

      known_key : AreKeyed (count + 1) keys after
      known_key = record {
        many = length-set old n longer ∙ before.many;
        differ = before.differ;
        each = λ i l. elim (cases_lt i count) [
          | inl less ↦ kept i (before.each i less)
          | inr more ↦ let here : count ≡ i = omega (arith, l, more) in subst (λ (j : ℕ). (m : ℕ) × (b : List ℕ) × (slice_get after m ≡ Some b) × Contains b j) here last
        ];
        keyed = keyed_after;
        rising = rising_after;
        some = some_after;
        in_order = ordered_as old after before.some from_old before.in_order;
      }

    -- the key is new: the number is in a new group
    module _ (keys : List K) (old : List (List ℕ)) (before : AreKeyed count keys old) (differ : AllDiffer (keys ++ k ∷ [])) where
      abbrev one : List ℕ
      one = count ∷ []

      abbrev grown : List (List ℕ)
      grown = old ++ one ∷ []

      keyed_one : (m i : ℕ) → m ≡ length old → Contains one i → (i < count + 1) × ((y : X) × (l : K) × (slice_get xs i ≡ Some y) × (slice_get (keys ++ k ∷ []) m ≡ Some l) × P y l)
      keyed_one m i e c = elim (contains-cons count [] i c) [
        | inl s ↦
            let size : m ≡ length keys = e ∙ before.many in
            (omega (arith, s), (x, k, subst (λ (j : ℕ). slice_get xs j ≡ Some x) s there, ap (slice_get (keys ++ k ∷ [])) size ∙ slice_get-push_at keys k, is_key))
        | inr none ↦ absurd (Contains-none i none)
      ]

      keyed_old : (m i : ℕ) (b : List ℕ) → slice_get old m ≡ Some b → Contains b i → (i < count + 1) × ((y : X) × (l : K) × (slice_get xs i ≡ Some y) × (slice_get (keys ++ k ∷ []) m ≡ Some l) × P y l)
      keyed_old m i b at_m c =
          let (less, (y, l, at_i, key_at, is)) = before.keyed m i b at_m c in
          (omega (arith, less), (y, l, at_i, slice_get-longer keys (k ∷ []) m l key_at, is))

      keyed_grown : (m i : ℕ) (b : List ℕ) → slice_get grown m ≡ Some b → Contains b i → (i < count + 1) × ((y : X) × (l : K) × (slice_get xs i ≡ Some y) × (slice_get (keys ++ k ∷ []) m ≡ Some l) × P y l)
      keyed_grown m i b at_m c = elim (push_cases old one m b at_m) [
        | inl earlier ↦ keyed_old m i b earlier c
        | inr here ↦ keyed_one m i here.0 (subst (λ (g : List ℕ). Contains g i) (sym here.1) c)
      ]

      rising_one : Rises one
      rising_one i j y z l at_i at_j = absurd (omega (arith, l, slice_get_within one j z at_j))

      rising_grown : EachItem Rises grown
      rising_grown m b at_m = elim (push_cases old one m b at_m) [
        | inl earlier ↦ before.rising m b earlier
        | inr here ↦ subst Rises here.1 rising_one
      ]

      some_grown : EachItem (λ (b : List ℕ). 0 < length b) grown
      some_grown m b at_m = elim (push_cases old one m b at_m) [
        | inl earlier ↦ before.some m b earlier
        | inr here ↦ subst (λ (g : List ℕ). 0 < length g) here.1 (omega arith)
      ]

      first_below : (m : ℕ) (a : List ℕ) → slice_get old m ≡ Some a → slice_index a 0 < count
      first_below m a at_m = (before.keyed m (slice_index a 0) a at_m (Contains-get_or a 0 0 (before.some m a at_m))).0

      order_grown : Ordered (λ (a b : List ℕ). slice_index a 0 < slice_index b 0) grown
      order_grown m n a b l at_m at_n = elim (push_cases old one n b at_n) [
        | inl earlier ↦ before.in_order m n a b l (sym (slice_get-append_before old (one ∷ []) m (omega (arith, l, slice_get_within old n b earlier))) ∙ at_m) earlier
        | inr here ↦
            let at_old : slice_get old m ≡ Some a = sym (slice_get-append_before old (one ∷ []) m (omega (arith, l, here.0))) ∙ at_m in
            subst (λ (g : List ℕ). slice_index a 0 < slice_index g 0) here.1 (first_below m a at_old)
      ]

      new_key : AreKeyed (count + 1) (keys ++ k ∷ []) grown
      new_key = record {
        many =
            let groups : length grown ≡ length old + 1 = length-append old (one ∷ []) in
            let many : length (keys ++ k ∷ []) ≡ length keys + 1 = length-append keys (k ∷ []) in
            omega (arith, groups, many, before.many);
        differ = differ;
        each = λ i l. elim (cases_lt i count) [
          | inl less ↦ let (m, b, at_m, c) = before.each i less in (m, b, slice_get-longer old (one ∷ []) m b at_m, c)
          | inr more ↦ let here : count ≡ i = omega (arith, l, more) in subst (λ (j : ℕ). (m : ℕ) × (b : List ℕ) × (slice_get grown m ≡ Some b) × Contains b j) here (length old, one, slice_get-push_at old one, contains_head count [])
        ];
        keyed = keyed_grown;
        rising = rising_grown;
        some = some_grown;
        in_order = order_grown;
      }

    -- the number was put into the group that has the number of its key
    module _ (keys newer : List K) (old new : List (List ℕ)) (before : AreKeyed count keys old) (differ : AllDiffer newer) (n : ℕ) (key_at : slice_get newer n ≡ Some k) where
      no_second : n < length keys → newer ≡ keys ++ k ∷ [] → ⊥
      no_second l e =
          let first = subst (λ (ks : List K). slice_get ks n ≡ Some k) e key_at in
          subst AllDiffer e differ n (length keys) k l first (slice_get-push_at keys k)

      pub put_in : (newer ≡ keys) ⊎ (newer ≡ keys ++ k ∷ []) → PutsInto n count old new → AreKeyed (count + 1) newer new
      put_in (inl e) (known group at made) =
          let after = known_key keys old before n group at (subst (λ (ks : List K). slice_get ks n ≡ Some k) e key_at) in
          subst (λ (ks : List K). AreKeyed (count + 1) ks new) (sym e) (subst (AreKeyed (count + 1) keys) (sym made) after)
      put_in (inr e) (known group at made) =
          absurd (no_second (subst (λ (m : ℕ). n < m) before.many (slice_get_within old n group at)) e)
      put_in (inl e) (fresh past made) =
          let within : n < length keys = slice_get_within keys n k (subst (λ (ks : List K). slice_get ks n ≡ Some k) e key_at) in
          absurd (omega (arith, within, past, before.many))
      put_in (inr e) (fresh past made) =
          let after = new_key keys old before (subst AllDiffer e differ) in
          subst (λ (ks : List K). AreKeyed (count + 1) ks new) (sym e) (subst (AreKeyed (count + 1) (keys ++ k ∷ [])) (sym made) after)

  -- if equal keys mean the same, the numbers are in their groups
  module _ (Same : X → X → Type 0) (itself : (x : X) → Same x x) (exact : (x y : X) (k l : K) → P x k → P y l → (k ≡ l) ↔ Same x y) (keys : List K) (groups : List (List ℕ)) (all : AreKeyed (length xs) keys groups) where
    same_as : (m n i j : ℕ) (a b : List ℕ) (x y : X) → slice_get groups m ≡ Some a → slice_get groups n ≡ Some b → Contains a i → Contains b j → slice_get xs i ≡ Some x → slice_get xs j ≡ Some y → (m ≡ n) ↔ Same x y
    same_as m n i j a b x y at_m at_n c d at_i at_j =
        let (_, (x', k, is_x, key_x, p)) = all.keyed m i a at_m c in
        let (_, (y', l, is_y, key_y, q)) = all.keyed n j b at_n d in
        let of_x : P x k = subst (λ (z : X). P z k) (same_some x' x (sym is_x ∙ at_i)) p in
        let of_y : P y l = subst (λ (z : X). P z l) (same_some y' y (sym is_y ∙ at_j)) q in (
          λ e. (exact x y k l of_x of_y).0 (same_some k l (sym key_x ∙ ap (slice_get keys) e ∙ key_y)),
          λ s. one_place keys all.differ m n l (key_x ∙ ap Some ((exact x y k l of_x of_y).1 s)) key_y,
        )

    pub are_groups : AreGroups Same xs groups
    are_groups = record {
      each = all.each;
      once = λ m n i a b at_m at_n c d.
          let (_, (x, k, is_x, key_x, p)) = all.keyed m i a at_m c in
          (same_as m n i i a b x x at_m at_n c d is_x is_x).1 (itself x);
      within = λ n group at i c. (all.keyed n i group at c).0;
      same = same_as;
      rising = all.rising;
      some = all.some;
      in_order = all.in_order;
    }

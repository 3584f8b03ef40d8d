-- Kernels that are numbered in the order of their first appearance, and one more kernel.
use Rattle.std.proofs.Common.{◌≡◌, ℕ, zero, suc, ◌+◌, ◌-◌, ◌<◌, ◌≤◌, ◌==◌, Bool, true, false, cond, List, [], ◌∷◌, ◌++◌, length, drop, refl, sym, ◌∙◌, ap, arith, ⊎_elim, length-append, eq-eqb}
use Rattle.std.specs.Prelude.{Option, slice_get, Some, None, Contains, unwrap_or}
use Rattle.std.specs.declared.cmp.Ordering.{Ordering}
use Rattle.std.specs.declared.cmp.Ordering.TheVariants.{Less, Equal, Greater}
use Rattle.std.specs.Ordering.{is_eq, match_ordering}
use Rattle.std.specs.Cmp.{Equal-is}
use Rattle.std.specs.Map.{lookup}
use Rattle.std.specs.Option.{option_to_list}
use Rattle.std.specs.BTreeMap.{BTreeMap, get, is_at, insert_entry, Updates}
use Rattle.std.proofs.lemmas.Option.{slice_get_within, get_or_from_slice_get}
use Rattle.std.proofs.lemmas.Bool.{cases_lt, cases_Bool, ne_eqb}
use Rattle.std.proofs.lemmas.List.{drop-append-le}
use Rattle.lalrpop_collections.specs.Words.{Exactly, AllDiffer, key_numbered, keys_below, by_number, IsNumbering, AddsOnce}
use Rattle.lalrpop_collections.proofs.theory.lists.Members.{slice_get-cases}

-- ---- one more entry
module _ {K : Type 0} (cmp : K → K → Ordering) (k : K) (v : ℕ) where
  beside : (n : ℕ) → (v == n) ≡ false → (e : K × ℕ) (es : List (K × ℕ)) (o : Ordering) → cond (is_eq o) (Some e.1) (lookup (is_at (cmp k)) es) ≡ None →
      (lookup (is_at (cmp k)) es ≡ None → key_numbered n (insert_entry cmp es k v) ≡ key_numbered n es) →
      key_numbered n (match_ordering o ((k, v) ∷ e ∷ es) ((e.0, v) ∷ es) (e ∷ insert_entry cmp es k v)) ≡ key_numbered n (e ∷ es)
  beside n other e es Less absent later = ap (λ b. cond b (Some k) (key_numbered n (e ∷ es))) other
  beside n other e es Equal absent later = cc
  beside n other e es Greater absent later = ap (λ r. cond (e.1 == n) (Some e.0) r) (later absent)

  -- the keys with other numbers stay
  pub key_numbered-other : (n : ℕ) → (v == n) ≡ false → (es : List (K × ℕ)) → lookup (is_at (cmp k)) es ≡ None → key_numbered n (insert_entry cmp es k v) ≡ key_numbered n es
  key_numbered-other n other [] absent = ap (λ b. cond b (Some k) None) other
  key_numbered-other n other (e ∷ es) absent = beside n other e es (cmp k e.0) absent (λ h. key_numbered-other n other es h)

  not_first : (b : Bool) (x : K) (r : Option K) → cond b (Some x) r ≡ None → (b ≡ false) × (r ≡ None)
  not_first true x r h = cc
  not_first false x r h = (refl, h)

  there : (e : K × ℕ) (es : List (K × ℕ)) (o : Ordering) → cond (is_eq o) (Some e.1) (lookup (is_at (cmp k)) es) ≡ None → cond (e.1 == v) (Some e.0) (key_numbered v es) ≡ None →
      (lookup (is_at (cmp k)) es ≡ None → key_numbered v es ≡ None → key_numbered v (insert_entry cmp es k v) ≡ Some k) →
      key_numbered v (match_ordering o ((k, v) ∷ e ∷ es) ((e.0, v) ∷ es) (e ∷ insert_entry cmp es k v)) ≡ Some k
  there e es Less absent free later = ap (λ b. cond b (Some k) (key_numbered v (e ∷ es))) (eq-eqb v v refl)
  there e es Equal absent free later = cc
  there e es Greater absent free later =
      let parts = not_first (e.1 == v) e.0 (key_numbered v es) free in
      ap (λ b. cond b (Some e.0) (key_numbered v (insert_entry cmp es k v))) parts.0 ∙ later absent parts.1

  -- the new key has the new number
  pub key_numbered-new : (es : List (K × ℕ)) → lookup (is_at (cmp k)) es ≡ None → key_numbered v es ≡ None → key_numbered v (insert_entry cmp es k v) ≡ Some k
  key_numbered-new [] absent free = ap (λ b. cond b (Some k) None) (eq-eqb v v refl)
  key_numbered-new (e ∷ es) absent free = there e es (cmp k e.0) absent free (λ h f. key_numbered-new es h f)

  keys_below-other : (n : ℕ) → n ≤ v → (es : List (K × ℕ)) → lookup (is_at (cmp k)) es ≡ None → keys_below n (insert_entry cmp es k v) ≡ keys_below n es
  keys_below-other zero most es absent = refl
  keys_below-other (suc n) most es absent =
      let other : (v == n) ≡ false = ne_eqb v n (λ same. omega arith) in
      ap (λ xs. xs ++ option_to_list (key_numbered n (insert_entry cmp es k v))) (keys_below-other n (omega arith) es absent)
      ∙ ap (λ o. keys_below n es ++ option_to_list o) (key_numbered-other n other es absent)

  -- if the new key has the next number, it is the last one
  pub by_number-new : (es fs : List (K × ℕ)) → v ≡ length es → fs ≡ insert_entry cmp es k v → length fs ≡ length es + 1 → lookup (is_at (cmp k)) es ≡ None → key_numbered v es ≡ None → by_number fs ≡ by_number es ++ k ∷ []
  by_number-new es fs next made longer absent free =
      let up : length fs ≡ suc v = omega arith in
      ap (λ n. keys_below n fs) up
      ∙ ap (λ xs. keys_below v xs ++ option_to_list (key_numbered v xs)) made
      ∙ ap (λ xs. xs ++ option_to_list (key_numbered v (insert_entry cmp es k v))) (keys_below-other v (omega arith) es absent)
      ∙ ap (λ o. keys_below v es ++ option_to_list o) (key_numbered-new es absent free)
      ∙ ap (λ n. keys_below n es ++ k ∷ []) next

-- ---- places in lists
pub slice_get-push_before : {X : Type 0} (xs : List X) (x : X) (k : ℕ) → k < length xs → slice_get (xs ++ x ∷ []) k ≡ slice_get xs k
slice_get-push_before [] x k l = absurd (omega arith)
slice_get-push_before (y ∷ xs) x zero l = refl
slice_get-push_before (y ∷ xs) x (suc k) l = slice_get-push_before xs x k (omega arith)

pub slice_get-push_at : {X : Type 0} (xs : List X) (x : X) → slice_get (xs ++ x ∷ []) (length xs) ≡ Some x
slice_get-push_at [] x = refl
slice_get-push_at (y ∷ xs) x = slice_get-push_at xs x

pub contains_at : {X : Type 0} (xs : List X) (x : X) (k : ℕ) → slice_get xs k ≡ Some x → Contains xs x
contains_at xs x k h = (k, slice_get_within xs k x h, get_or_from_slice_get xs k x x h)

-- ---- the numbering
module _ {K : Type 0} {cmp : K → K → Ordering} {numbers : BTreeMap K ℕ} {pending : List K} where
  -- a kernel without a number is not in the list
  pub is_fresh : IsNumbering cmp numbers pending → (k : K) → get cmp numbers k ≡ None → ¬ Contains (by_number numbers.entries) k
  is_fresh numbering k absent there =
      let found : get cmp numbers k ≡ Some there.0 = numbering.numbered k there.0 (slice_get-cases (by_number numbers.entries) k there.0 there.1 there.2) in
      cc

  -- no kernel is at two places
  pub all_differ : IsNumbering cmp numbers pending → AllDiffer (by_number numbers.entries)
  all_differ numbering i j x less at_i at_j =
      let same : Some i ≡ Some j = sym (numbering.numbered x i at_i) ∙ numbering.numbered x j at_j in
      let equal : i ≡ j = ap (λ o. unwrap_or o i) same in
      omega arith

  -- a kernel with a number is in the list, and is not added again
  pub adds_known : IsNumbering cmp numbers pending → (k : K) (n : ℕ) → get cmp numbers k ≡ Some n → AddsOnce (by_number numbers.entries) (by_number numbers.entries) k
  adds_known numbering k n found = record {
    known = λ _. refl;
    fresh = λ absent. absurd (absent (contains_at (by_number numbers.entries) k n (numbering.found k n found)));
  }

module _ {K : Type 0} (cmp : K → K → Ordering) (k : K) (v : ℕ) where
  longer_by_one : (e : K × ℕ) (es : List (K × ℕ)) (o : Ordering) → cond (is_eq o) (Some e.1) (lookup (is_at (cmp k)) es) ≡ None →
      (lookup (is_at (cmp k)) es ≡ None → length (insert_entry cmp es k v) ≡ length es + 1) →
      length (match_ordering o ((k, v) ∷ e ∷ es) ((e.0, v) ∷ es) (e ∷ insert_entry cmp es k v)) ≡ length (e ∷ es) + 1
  longer_by_one e es Less absent later = omega arith
  longer_by_one e es Equal absent later = cc
  longer_by_one e es Greater absent later = omega (arith, later absent)

  -- a new key makes one more entry
  pub length-insert_entry : (es : List (K × ℕ)) → lookup (is_at (cmp k)) es ≡ None → length (insert_entry cmp es k v) ≡ length es + 1
  length-insert_entry [] absent = refl
  length-insert_entry (e ∷ es) absent = longer_by_one e es (cmp k e.0) absent (λ h. length-insert_entry es h)

-- the new map is the old one with the kernel under the next number
pub record IsNext {K : Type 0} (cmp : K → K → Ordering) (old new : BTreeMap K ℕ) (k : K) (v : ℕ) : Type 0 where
  pub next : v ≡ length old.entries
  pub absent : get cmp old k ≡ None
  pub made : new.entries ≡ insert_entry cmp old.entries k v
  pub updates : Updates cmp old new k (Some v)

module _ {K : Type 0} {cmp : K → K → Ordering} {old new : BTreeMap K ℕ} {k : K} {v : ℕ} where
  longer : IsNext cmp old new k v → length new.entries ≡ length old.entries + 1
  longer step = ap length step.made ∙ length-insert_entry cmp k v old.entries step.absent

  tied_is : IsNext cmp old new k v → (q : K) → is_eq (cmp k q) ≡ true → get cmp new q ≡ Some v
  tied_is step q tied = step.updates.0 q ∙ ap (λ b. cond b (Some v) (get cmp old q)) tied

  apart_is : IsNext cmp old new k v → (q : K) → is_eq (cmp k q) ≡ false → get cmp new q ≡ get cmp old q
  apart_is step q apart = step.updates.0 q ∙ ap (λ b. cond b (Some v) (get cmp old q)) apart

module _ {K : Type 0} {cmp : K → K → Ordering} {old new : BTreeMap K ℕ} {pending : List K} {k : K} {v : ℕ} where
  -- the list has the kernel at its end
  pub list_grows : IsNumbering cmp old pending → IsNext cmp old new k v → by_number new.entries ≡ by_number old.entries ++ k ∷ []
  list_grows numbering step = let at_end = step.next in by_number-new cmp k v old.entries new.entries at_end step.made (longer step) step.absent (numbering.outside v (omega arith))

  next_found : ((x y : K) → cmp x y ≡ Equal → x ≡ y) → IsNumbering cmp old pending → IsNext cmp old new k v → (q : K) (n : ℕ) → get cmp new q ≡ Some n → slice_get (by_number new.entries) n ≡ Some q
  next_found exact numbering step q n found =
      let list : List K = by_number old.entries in
      let grown : by_number new.entries ≡ list ++ k ∷ [] = list_grows numbering step in
      ap (λ xs. slice_get xs n) grown
      ∙ ⊎_elim
      (λ tied. let same : k ≡ q = exact k q ((Equal-is (cmp k q)).0 tied) in
      let number : Some v ≡ Some n = sym (tied_is step q tied) ∙ found in
      let place : n ≡ length list = sym (ap (λ o. unwrap_or o n) number) ∙ step.next ∙ sym numbering.whole in
      ap (λ j. slice_get (list ++ k ∷ []) j) place ∙ slice_get-push_at list k ∙ ap (λ x. Some x) same)
      (λ apart. let before : slice_get list n ≡ Some q = numbering.found q n (sym (apart_is step q apart) ∙ found) in
      slice_get-push_before list k n (slice_get_within list n q before) ∙ before)
      (cases_Bool (is_eq (cmp k q)))

  next_numbered : ((x y : K) → cmp x y ≡ Equal → x ≡ y) → IsNumbering cmp old pending → IsNext cmp old new k v → (q : K) (n : ℕ) → slice_get (by_number new.entries) n ≡ Some q → get cmp new q ≡ Some n
  next_numbered exact numbering step q n there =
      let list : List K = by_number old.entries in
      let at : slice_get (list ++ k ∷ []) n ≡ Some q = sym (ap (λ xs. slice_get xs n) (list_grows numbering step)) ∙ there in
      let within : n < length (list ++ k ∷ []) = slice_get_within (list ++ k ∷ []) n q at in
      let more : length (list ++ k ∷ []) ≡ length list + 1 = length-append list (k ∷ []) in
      ⊎_elim
      (λ l. let known : get cmp old q ≡ Some n = numbering.numbered q n (sym (slice_get-push_before list k n l) ∙ at) in
      ⊎_elim
      (λ tied. let same : k ≡ q = exact k q ((Equal-is (cmp k q)).0 tied) in
      let none : get cmp old q ≡ None = ap (λ x. get cmp old x) (sym same) ∙ step.absent in cc)
      (λ apart. apart_is step q apart ∙ known)
      (cases_Bool (is_eq (cmp k q))))
      (λ g. let here : n ≡ length list = omega arith in
      let last : Some k ≡ Some q = sym (slice_get-push_at list k) ∙ ap (λ j. slice_get (list ++ k ∷ []) j) (sym here) ∙ at in
      let same : k ≡ q = ap (λ o. unwrap_or o k) last in
      ap (λ x. get cmp new x) (sym same) ∙ step.updates.1 ∙ ap (λ j. Some j) (step.next ∙ sym numbering.whole ∙ sym here))
      (cases_lt n (length list))

  next_outside : IsNumbering cmp old pending → IsNext cmp old new k v → (n : ℕ) → length new.entries ≤ n → key_numbered n new.entries ≡ None
  next_outside numbering step n most =
      let more : length new.entries ≡ length old.entries + 1 = longer step in
      let at_end = step.next in
      ap (λ es. key_numbered n es) step.made ∙ key_numbered-other cmp k v n (ne_eqb v n (λ same. omega arith)) old.entries step.absent ∙ numbering.outside n (omega arith)

  -- the numbering with the kernel, which waits after the others
  pub next_numbering : ((x y : K) → cmp x y ≡ Equal → x ≡ y) → IsNumbering cmp old pending → IsNext cmp old new k v → IsNumbering cmp new (pending ++ k ∷ [])
  next_numbering exact numbering step =
      let list : List K = by_number old.entries in
      let grown : by_number new.entries ≡ list ++ k ∷ [] = list_grows numbering step in
      let count : length (list ++ k ∷ []) ≡ length list + 1 = length-append list (k ∷ []) in
      let waiting : length (pending ++ k ∷ []) ≡ length pending + 1 = length-append pending (k ∷ []) in
      let more : length new.entries ≡ length old.entries + 1 = longer step in
      let fewer = numbering.fewer in
      let whole = numbering.whole in
      let same : length new.entries - length (pending ++ k ∷ []) ≡ length old.entries - length pending = omega arith in
      record {
        found = next_found exact numbering step;
        numbered = next_numbered exact numbering step;
        outside = next_outside numbering step;
        whole = ap length grown ∙ count ∙ ap (λ n. n + 1) whole ∙ sym more;
        fewer = omega arith;
        waits = ap (λ ys. ys ++ k ∷ []) numbering.waits ∙ sym (drop-append-le (length old.entries - length pending) list (k ∷ []) (omega arith)) ∙ ap (λ n. drop n (list ++ k ∷ [])) (sym same)
            ∙ ap (λ xs. drop (length new.entries - length (pending ++ k ∷ [])) xs) (sym grown);
      }

  -- a kernel without a number is added at the end of the list
  pub adds_fresh : IsNumbering cmp old pending → IsNext cmp old new k v → AddsOnce (by_number old.entries) (by_number new.entries) k
  adds_fresh numbering step = record {
    known = λ there. absurd (is_fresh numbering k step.absent there);
    fresh = λ _. list_grows numbering step;
  }

  -- the new kernel is at the place that its number says
  pub at_number : IsNumbering cmp old pending → IsNext cmp old new k v → slice_get (by_number new.entries) v ≡ Some k
  at_number numbering step =
      ap (λ xs. slice_get xs v) (list_grows numbering step) ∙ ap (λ n. slice_get (by_number old.entries ++ k ∷ []) n) (step.next ∙ sym numbering.whole) ∙ slice_get-push_at (by_number old.entries) k

-- keys that tie are equal if `==` is exact and agrees with the order
pub exact_by_cmp : {K : Type 0} (E : K → K → Bool) (cmp : K → K → Ordering) → Exactly E → ((x y : K) → E x y ≡ is_eq (cmp x y)) → (x y : K) → cmp x y ≡ Equal → x ≡ y
exact_by_cmp E cmp exact ties x y tie = exact x y (ties x y ∙ ap is_eq tie)

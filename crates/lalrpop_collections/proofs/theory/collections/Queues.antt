-- The marks of a queue say which numbers wait.
use Rattle.std.proofs.Common.{cond, ◌≡◌, ℕ, ◌+◌, ◌<◌, ◌≤◌, ◌==◌, ◌||◌, inl, inr, List, [], ◌∷◌, ◌++◌, length, refl, sym, ap, subst, ◌∙◌, arith, Bool, true, false, get_or, set, eq-eqb, get_or-set_other, get_or-set_same}
use Rattle.std.specs.Prelude.{Contains}
use Rattle.std.specs.List.{IsDistinct, AllByRecursion}
use Rattle.std.specs.Cmp.{nat_eq_equiv}
use Rattle.std.proofs.lemmas.Bool.{false≢true, or_right, or_left, cases_eq, cases_lt, ne_eqb}
use Rattle.std.proofs.lemmas.List.{get_or_default, get_or_past, length-append}
use Rattle.std.proofs.lemmas.List.Folds.{list_any-append}
use Rattle.std.proofs.lemmas.List.Elements.{Contains-append_left}
use Rattle.std.proofs.lemmas.Map.Keys.{IsDistinct-head, IsDistinct-tail, IsDistinct-push}
use Rattle.std.proofs.lemmas.Map.Steps.{length-le_from_distinct_below}
use Rattle.lalrpop_collections.specs.Words.{HasWaitingMarks, waits}
use Rattle.lalrpop_collections.proofs.theory.lists.Members.{contains-cons, contains_head, contains_tail}
use Rattle.lalrpop_collections.specs.lists.Entries.{IsPut}
use Rattle.lalrpop_collections.specs.lists.Entries.IsPut.{came, waited}
use Rattle.lalrpop_collections.specs.lists.Queues.{waiting_with}

pub or_false : (a : Bool) → (a || false) ≡ a
or_false true = refl
or_false false = refl

or_turned : (a b : Bool) → (a || b) ≡ (b || a)
or_turned true true = refl
or_turned true false = refl
or_turned false true = refl
or_turned false false = refl

-- a mark is below the limit
mark_within : (marks : List Bool) (k : ℕ) → get_or marks k false ≡ true → k < length marks
mark_within marks k h = elim (cases_lt k (length marks)) [
  | inl less ↦ less
  | inr past ↦ absurd (false≢true (sym (get_or_past marks k false past) ∙ h))
]

pub waits_within : (numbers : List ℕ) (marks : List Bool) → HasWaitingMarks numbers marks → (k : ℕ) → waits numbers k ≡ true → k < length marks
waits_within numbers marks m k h = mark_within marks k (sym (m.marked k) ∙ h)

-- no more numbers wait than there are marks
pub Marked-few : (numbers : List ℕ) (marks : List Bool) → HasWaitingMarks numbers marks → length numbers ≤ length marks
Marked-few numbers marks m = length-le_from_distinct_below numbers (length marks) m.once (λ q h. waits_within numbers marks m q h)

-- one number more waits after the others
pub waits-push : (numbers : List ℕ) (n k : ℕ) → waits (numbers ++ n ∷ []) k ≡ ((k == n) || waits numbers k)
waits-push numbers n k = list_any-append (λ x. k == x) numbers (n ∷ []) ∙ ap (λ b. waits numbers k || b) (or_false (k == n)) ∙ or_turned (waits numbers k) (k == n)

pub Marked-added : (numbers more : List ℕ) (marks : List Bool) (n : ℕ) → more ≡ numbers ++ n ∷ [] → HasWaitingMarks numbers marks → n < length marks → get_or marks n false ≡ false → HasWaitingMarks more (set marks n true)
Marked-added numbers more marks n is m within free = rw is (record {
  marked = λ k. waits-push numbers n k ∙ at k;
  once = IsDistinct-push nat_eq_equiv numbers n m.once (m.marked n ∙ free);
})
  where
    at : (k : ℕ) → ((k == n) || waits numbers k) ≡ get_or (set marks n true) k false
    at k = elim (cases_eq k n) [
      | inl same ↦ ap (λ b. b || waits numbers k) (eq-eqb k n same) ∙ sym (ap (λ j. get_or (set marks n true) j false) same ∙ get_or-set_same marks n true false within)
      | inr apart ↦ ap (λ b. b || waits numbers k) (ne_eqb k n apart) ∙ m.marked k ∙ sym (get_or-set_other marks n k true false apart)
    ]

-- the first number no longer waits
none_of : (n : ℕ) (numbers : List ℕ) → AllByRecursion (λ y. (n == y) ≡ false) numbers → waits numbers n ≡ false
none_of n [] h = refl
none_of n (x ∷ numbers) h = ap (λ b. b || waits numbers n) h.0 ∙ none_of n numbers h.1

pub Marked-taken : (numbers rest : List ℕ) (marks : List Bool) (n : ℕ) → numbers ≡ n ∷ rest → HasWaitingMarks numbers marks → HasWaitingMarks rest (set marks n false)
Marked-taken numbers rest marks n is m = record { marked = at; once = IsDistinct-tail _ n rest once }
  where
    once : IsDistinct (λ x y. x == y) (n ∷ rest)
    once = rw (← is) m.once

    marked : (k : ℕ) → ((k == n) || waits rest k) ≡ get_or marks k false
    marked k = sym (ap (λ xs. waits xs k) is) ∙ m.marked k

    within : n < length marks
    within = mark_within marks n (sym (marked n) ∙ or_left (n == n) (waits rest n) (eq-eqb n n refl))

    at : (k : ℕ) → waits rest k ≡ get_or (set marks n false) k false
    at k = elim (cases_eq k n) [
      | inl same ↦ ap (waits rest) same ∙ none_of n rest (IsDistinct-head _ n rest once) ∙ sym (ap (λ j. get_or (set marks n false) j false) same ∙ get_or-set_same marks n false false within)
      | inr apart ↦ sym (ap (λ b. b || waits rest k) (ne_eqb k n apart)) ∙ marked k ∙ sym (get_or-set_other marks n k false false apart)
    ]

pub taken_within : (numbers rest : List ℕ) (marks : List Bool) (n : ℕ) → numbers ≡ n ∷ rest → HasWaitingMarks numbers marks → n < length marks
taken_within numbers rest marks n is m = waits_within numbers marks m n (ap (λ xs. waits xs n) is ∙ or_left (n == n) (waits rest n) (eq-eqb n n refl))

-- no number waits
pub Marked-none : (numbers : List ℕ) (marks : List Bool) → numbers ≡ [] → ((k : ℕ) → get_or marks k false ≡ false) → HasWaitingMarks numbers marks
unfolding IsDistinct
Marked-none numbers marks is none = rw is (record { marked = λ k. sym (none k); once = tt })

-- ---- a number that is added to those that wait
pub waits-with : (numbers : List ℕ) (n k : ℕ) → waits (waiting_with n numbers) k ≡ ((k == n) || waits numbers k)
waits-with numbers n k = by (waits numbers n) refl
  where
    by : (b : Bool) → waits numbers n ≡ b → waits (cond b numbers (numbers ++ n ∷ [])) k ≡ ((k == n) || waits numbers k)
    by false e = waits-push numbers n k
    by true e = elim (cases_eq k n) [
      | inl same ↦ ap (waits numbers) same ∙ e ∙ sym (or_left (k == n) (waits numbers k) (eq-eqb k n same))
      | inr apart ↦ ap (λ b. b || waits numbers k) (sym (ne_eqb k n apart))
    ]

-- a number that waits is in the list
waits_here : (x n : ℕ) (numbers : List ℕ) → (waits numbers n ≡ true → Contains numbers n) → (b : Bool) → (n == x) ≡ b → (b || waits numbers n) ≡ true → Contains (x ∷ numbers) n
waits_here x n numbers later true e h = elim (cases_eq n x) [
  | inl same ↦ subst (Contains (x ∷ numbers)) (sym same) (contains_head x numbers)
  | inr apart ↦ absurd (false≢true (sym (ne_eqb n x apart) ∙ e))
]
waits_here x n numbers later false e h = contains_tail x numbers n (later h)

pub waits_among : (numbers : List ℕ) (n : ℕ) → waits numbers n ≡ true → Contains numbers n
waits_among [] n h = absurd (false≢true h)
waits_among (x ∷ numbers) n h = waits_here x n numbers (waits_among numbers n) (n == x) refl h

-- the mark that is read within the marks is the mark of the number
pub mark_read : (marks : List Bool) (n : ℕ) (b : Bool) → n < length marks → b ≡ get_or marks n b → get_or marks n false ≡ b
mark_read marks n b within is = get_or_default marks n false b within ∙ sym is

-- the marks say whether a number is added after the others
pub with_waiting : (numbers : List ℕ) (marks : List Bool) (n : ℕ) → HasWaitingMarks numbers marks → get_or marks n false ≡ true → waiting_with n numbers ≡ numbers
with_waiting numbers marks n m h = ap (λ (b : Bool). cond b numbers (numbers ++ n ∷ [])) (m.marked n ∙ h)

pub with_new : (numbers : List ℕ) (marks : List Bool) (n : ℕ) → HasWaitingMarks numbers marks → get_or marks n false ≡ false → waiting_with n numbers ≡ numbers ++ n ∷ []
with_new numbers marks n m h = ap (λ (b : Bool). cond b numbers (numbers ++ n ∷ [])) (m.marked n ∙ h)

-- an empty list has no mark
pub no_mark : (marks : List Bool) → marks ≡ [] → (k : ℕ) → get_or marks k false ≡ false
no_mark marks none k = ap (λ (ms : List Bool). get_or ms k false) none

-- the numbers below n + 1 wait
pub waits_below : (numbers more : List ℕ) (n : ℕ) → more ≡ waiting_with n numbers → ((k : ℕ) → k < n → waits numbers k ≡ true) → (k : ℕ) → k < n + 1 → waits more k ≡ true
waits_below numbers more n is before k l = ap (λ (ns : List ℕ). waits ns k) is ∙ waits-with numbers n k ∙ elim (cases_eq k n) [
  | inl same ↦ or_left (k == n) (waits numbers k) (eq-eqb k n same)
  | inr apart ↦ or_right (k == n) (waits numbers k) (before k (omega (arith, l, apart)))
]

-- ---- the lists after one number more, or without the first number
pub with_here : (numbers : List ℕ) (n : ℕ) → Contains (waiting_with n numbers) n
with_here numbers n = waits_among (waiting_with n numbers) n (waits-with numbers n n ∙ or_left (n == n) (waits numbers n) (eq-eqb n n refl))

pub with_kept : (numbers : List ℕ) (n k : ℕ) → Contains numbers k → Contains (waiting_with n numbers) k
with_kept numbers n k c = by (waits numbers n)
  where
    by : (b : Bool) → Contains (cond b numbers (numbers ++ n ∷ [])) k
    by true = c
    by false = Contains-append_left numbers (n ∷ []) k c

pub with_longer : (numbers : List ℕ) (n : ℕ) → length (waiting_with n numbers) ≤ length numbers + 1
with_longer numbers n = by (waits numbers n)
  where
    by : (b : Bool) → length (cond b numbers (numbers ++ n ∷ [])) ≤ length numbers + 1
    by true = omega arith
    by false = let l = length-append numbers (n ∷ []) in omega arith

pub left_kept : (numbers rest : List ℕ) (n k : ℕ) → numbers ≡ n ∷ rest → (k ≡ n → ⊥) → Contains numbers k → Contains rest k
left_kept numbers rest n k is apart c = elim (contains-cons n rest k (subst (λ (ns : List ℕ). Contains ns k) is c)) [
  | inl same ↦ absurd (apart (sym same))
  | inr later ↦ later
]

-- a number with something new waits after the others, or waited already
pub put_with : (n : ℕ) (numbers more : List ℕ) → more ≡ waiting_with n numbers → IsPut n true numbers more
put_with n numbers more is = by (waits numbers n) refl is
  where
    by : (b : Bool) → waits numbers n ≡ b → more ≡ cond b numbers (numbers ++ n ∷ []) → IsPut n true numbers more
    by true e is = waited (waits_among numbers n e) is
    by false e is = came is

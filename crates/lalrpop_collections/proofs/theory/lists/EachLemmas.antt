-- Facts that hold of each item, proved one item at a time.
use Rattle.std.proofs.Common.{◌≡◌, ℕ, zero, suc, ◌+◌, ◌<◌, ◌≤◌, List, ◌∷◌, length, get_or, refl, sym, ◌∙◌, ap, subst, arith, ⊎_elim, inl, inr, ◌⊎◌, [], ◌++◌, append_assoc, append-nil}
use Rattle.std.specs.Prelude.{slice_get, Some, unwrap_or, Contains}
use Rattle.std.proofs.lemmas.Option.{slice_get_within, slice_get_read}
use Rattle.std.proofs.lemmas.Bool.{cases_lt}
use Rattle.lalrpop_collections.specs.Words.{EachItem, EachBelow}
use Rattle.std.proofs.lemmas.List.Elements.{Contains-append_right, Contains-append_cases}
use Rattle.lalrpop_collections.proofs.theory.lists.Members.{contains_head, contains-cons, Contains-none}

module _ {X : Type 0} (P : X → Type 0) where
  pub each_below_more : (xs : List X) (i : ℕ) (x : X) → i < length xs → x ≡ get_or xs i x → P x → EachBelow P xs i → EachBelow P xs (i + 1)
  each_below_more xs i x l is holds below k y less at =
      ⊎_elim (λ before. below k y before at)
      (λ here.
      let same : i ≡ k = omega arith in
      let read : Some x ≡ Some y = sym (slice_get_read xs (length xs) i x refl l is) ∙ ap (λ n. slice_get xs n) same ∙ at in
      subst P (ap (λ o. unwrap_or o x) read) holds)
      (cases_lt k i)

  pub each_of_below : (xs : List X) (n : ℕ) → length xs ≤ n → EachBelow P xs n → EachItem P xs
  each_of_below xs n l below k x at = below k x (let within : k < length xs = slice_get_within xs k x at in omega arith) at

  pub each_at : (xs : List X) (i : ℕ) (x : X) → i < length xs → x ≡ get_or xs i x → EachItem P xs → P x
  each_at xs i x l is each = each i x (slice_get_read xs (length xs) i x refl l is)

  each_cons_at : (x : X) (xs : List X) → P x → EachItem P xs → EachItem P (x ∷ xs)
  each_cons_at x xs holds each zero y at = subst P (ap (λ o. unwrap_or o x) at) holds
  each_cons_at x xs holds each (suc k) y at = each k y at

  pub each_cons : (x : X) (xs ys : List X) → ys ≡ x ∷ xs → P x → EachItem P xs → EachItem P ys
  each_cons x xs ys e holds each = rw e (each_cons_at x xs holds each)

  pub each_head : (x : X) (xs ys : List X) → ys ≡ x ∷ xs → EachItem P ys → P x
  each_head x xs ys e each = each 0 x (rw e refl)

  pub each_tail : (x : X) (xs ys : List X) → ys ≡ x ∷ xs → EachItem P ys → EachItem P xs
  each_tail x xs ys e each k y at = each (suc k) y (rw e at)

-- the value that is read at a place is the value there
pub same_at : {X : Type 0} (xs : List X) (i : ℕ) (x y : X) → i < length xs → x ≡ get_or xs i x → slice_get xs i ≡ Some y → y ≡ x
same_at xs i x y l is at = ap (λ o. unwrap_or o x) (sym at ∙ slice_get_read xs (length xs) i x refl l is)

-- ---- a loop over a list: a property holds of the items so far
pub record HoldsSoFar {X : Type 0} (P : List X → Type 0) (left all : List X) : Type 0 where
  pub done : List X
  pub whole : done ++ left ≡ all
  pub holds : P done

pub far_more : {X : Type 0} (P Q : List X → Type 0) (before left all : List X) (e : X) → HoldsSoFar P before all → before ≡ e ∷ left → ((done : List X) → P done → Q (done ++ e ∷ [])) → HoldsSoFar Q left all
far_more P Q before left all e h first step = record { done = h.done ++ e ∷ []; whole = append_assoc h.done (e ∷ []) left ∙ ap (λ es. h.done ++ es) (sym first) ∙ h.whole; holds = step h.done h.holds }

pub far_end : {X : Type 0} (P : List X → Type 0) (left all : List X) → left ≡ [] → HoldsSoFar P left all → P all
far_end P left all none h = subst P (sym (append-nil h.done) ∙ ap (λ es. h.done ++ es) (sym none) ∙ h.whole) h.holds

pub far_in : {X : Type 0} (P : List X → Type 0) (before left all : List X) (e : X) → HoldsSoFar P before all → before ≡ e ∷ left → Contains all e
far_in {X} P before left all e h first = subst (λ (es : List X). Contains es e) (ap (λ es. h.done ++ es) (sym first) ∙ h.whole) (Contains-append_right h.done (e ∷ left) e (contains_head e left))

pub either : {X : Type 0} (done : List X) (e x : X) → Contains (done ++ e ∷ []) x → Contains done x ⊎ (e ≡ x)
either done e x c = ⊎_elim (λ a. inl a) (λ b. ⊎_elim (λ s. inr s) (λ n. absurd (Contains-none x n)) (contains-cons e [] x b)) (Contains-append_cases done (e ∷ []) x c)

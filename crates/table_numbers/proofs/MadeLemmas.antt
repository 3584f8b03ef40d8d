-- States of the code, while they are made of states by number.
use Rattle.std.proofs.Common.{◌≡◌, ⊎_elim, ℕ, ◌+◌, ◌<◌, ◌==◌, ◌||◌, Bool, true, false, cond, List, [], ◌∷◌, ◌++◌, length, map, take, get_or, slice_get, Option, None, Some, option_map, refl, sym, ◌∙◌, ap, subst}
use Rattle.std.proofs.Math.Bool.{or_comm}
use Rattle.std.specs.BTreeMap.{BTreeMap, get, is_at}
use Rattle.std.specs.Cmp.{IsTotalOrder}
use Rattle.std.specs.List.{list_any}
use Rattle.std.specs.Prelude.{is_some}
use mathlib.Core.Bool.{true≢false}
use Rattle.std.specs.declared.cmp.Ordering.{Ordering}
use Rattle.std.proofs.lemmas.Cmp.{eq_by_cmp_equiv}
use Rattle.std.proofs.lemmas.List.{map-append}
use Rattle.std.proofs.lemmas.List.Folds.{list_any-append}
use Rattle.std.proofs.lemmas.Map.Lookups.{CmpEqualImpliesEq}
use Rattle.std.proofs.lemmas.Map.Views.{tells_apart}
use Rattle.lalrpop_base.specs.Words.{Bits, has, has-with_bit, number_of, with_bit}
use Rattle.lalrpop_collections.proofs.theory.lists.Places.{push_cases}
use Rattle.lalrpop_states.specs.declared.lr1_core.state.State.{State}
use Rattle.lalrpop_states.specs.declared.lr1_core.state.StateIndex.{StateIndex}
use Rattle.table_numbers.specs.Contents.{passes, target_at}
use Rattle.table_numbers.specs.Lists.{named}
use Rattle.table_numbers.specs.Made.{AddsTarget}
use Rattle.table_numbers.specs.declared.tables.NumberedState.{NumberedState}
use Rattle.table_numbers.proofs.ListSteps.{taken}

-- as much was taken of two lists, whose items are the same through a function each
pub next_same : (A B C : Type 0) (f : A → C) (g : B → C) (xs : List A) (ys : List B) (i : ℕ) (x d : A) (y e : B) → i < length xs → i < length ys → x ≡ get_or xs i d → y ≡ get_or ys i e → f x ≡ g y →
    map f (take i xs) ≡ map g (take i ys) → map f (take (i + 1) xs) ≡ map g (take (i + 1) ys)
next_same A B C f g xs ys i x d y e l m is_x is_y same before =
    ap (map f) (taken xs i x d l is_x)
    ∙ map-append f (take i xs) (x ∷ [])
    ∙ ap (λ (z : C). map f (take i xs) ++ z ∷ []) same
    ∙ ap (λ (zs : List C). zs ++ g y ∷ []) before
    ∙ sym (map-append g (take i ys) (y ∷ []))
    ∙ ap (map g) (sym (taken ys i y e m is_y))

or_with_none : (a : Bool) → a ≡ (a || false)
or_with_none true = refl
or_with_none false = refl

-- a set has one more of the tokens
pub next_token : (s : Bits) (xs : List ℕ) (i : ℕ) → i < length xs → ((q : ℕ) → has s q ≡ list_any (λ b. q == b) (take i xs)) → (q : ℕ) → has (with_bit s (get_or xs i 0)) q ≡ list_any (λ b. q == b) (take (i + 1) xs)
next_token s xs i l before q =
    let x = get_or xs i 0 in
    has-with_bit s x q
    ∙ ap (λ (t : Bool). (q == x) || t) (before q)
    ∙ or_comm (q == x) (list_any (λ b. q == b) (take i xs))
    ∙ ap (λ (t : Bool). list_any (λ b. q == b) (take i xs) || t) (or_with_none (q == x))
    ∙ sym (list_any-append (λ b. q == b) (take i xs) (x ∷ []))
    ∙ ap (list_any (λ b. q == b)) (sym (taken xs i x 0 l refl))

-- pairs with names, and one more
pub more_named : (A : Type 0) (names : List A) (pairs : List (ℕ × ℕ)) (i : ℕ) (name : A) → i < length pairs → slice_get names (get_or pairs i (0, 0)).0 ≡ Some name → named names (take (i + 1) pairs) ≡ named names (take i pairs) ++ (Some name, (get_or pairs i (0, 0)).1) ∷ []
more_named A names pairs i name l at =
    let x = get_or pairs i (0, 0) in
    ap (named names) (taken pairs i x (0, 0) l refl)
    ∙ map-append (λ (p : ℕ × ℕ). (slice_get names p.0, p.1)) (take i pairs) (x ∷ [])
    ∙ ap (λ (o : Option A). named names (take i pairs) ++ (o, x.1) ∷ []) at

-- a property of each state that was made, and of one more
pub next_made : (P : NumberedState → State Bits → Type 0) (list : List NumberedState) (states : List (State Bits)) (made : State Bits) (first : NumberedState) → slice_get list (length states) ≡ Some first → P first made →
    ((n : ℕ) (state : State Bits) (s : NumberedState) → slice_get states n ≡ Some state → slice_get list n ≡ Some s → P s state) →
    (n : ℕ) (state : State Bits) (s : NumberedState) → slice_get (states ++ made ∷ []) n ≡ Some state → slice_get list n ≡ Some s → P s state
next_made P list states made first here is each n state s at_n at_s = ⊎_elim
    (λ before. each n state s before at_s)
    (λ last.
    let same : Some first ≡ Some s = sym here ∙ ap (slice_get list) (sym last.0) ∙ at_s in
    let is_first : first ≡ s = cc in
    subst (λ (x : State Bits). P s x) last.1 (subst (λ (x : NumberedState). P x made) is_first is))
    (push_cases states made n state at_n)

-- the first of two targets
abbrev or_else : Option ℕ → Option ℕ → Option ℕ
or_else None b = b
or_else (Some n) b = Some n

by_first : (b : Bool) (n : ℕ) (x y z : Option ℕ) → x ≡ or_else y z → cond b (Some n) x ≡ or_else (cond b (Some n) y) z
by_first true n x y z e = refl
by_first false n x y z e = e

-- the target of a name among pairs with one more pair
target_at-push : {K : Type 0} (test : K → Bool) (pairs : List (Option K × ℕ)) (e : Option K × ℕ) → target_at test (pairs ++ e ∷ []) ≡ or_else (target_at test pairs) (cond (passes test e.0) (Some e.1) None)
target_at-push test [] e = refl
target_at-push test (p ∷ pairs) e = by_first (passes test p.0) p.1 (target_at test (pairs ++ e ∷ [])) (target_at test pairs) (cond (passes test e.0) (Some e.1) None) (target_at-push test pairs e)

or_else-None : (a : Option ℕ) → or_else a None ≡ a
or_else-None None = refl
or_else-None (Some n) = refl

-- a value that is not there is none
pub no_value : (o : Option StateIndex) → false ≡ is_some o → o ≡ None
no_value None e = refl
no_value (Some x) e = absurd (true≢false (sym e))

module _ {K : Type 0} (cmp : K → K → Ordering) (total : IsTotalOrder cmp) (exact : CmpEqualImpliesEq cmp) (old new : BTreeMap K StateIndex) (name : K) (target : StateIndex) (fresh : get cmp old name ≡ None) (updates : (q : K) → get cmp new q ≡ cond (is_at (cmp name) q) (Some target) (get cmp old q)) where
  -- a name without a target gets one
  pub adds_target : AddsTarget cmp old new name target.0
  adds_target pairs have q = by (is_at (cmp q) name) refl
    where
      turned : is_at (cmp name) q ≡ is_at (cmp q) name
      turned = (eq_by_cmp_equiv total).symm name q

      after : (b : Bool) → is_at (cmp q) name ≡ b → option_map number_of (get cmp new q) ≡ option_map number_of (cond b (Some target) (get cmp old q))
      after b e = ap (option_map number_of) (updates q ∙ ap (λ t. cond t (Some target) (get cmp old q)) (turned ∙ e))

      pushed : (b : Bool) → is_at (cmp q) name ≡ b → target_at (is_at (cmp q)) (pairs ++ (Some name, target.0) ∷ []) ≡ or_else (target_at (is_at (cmp q)) pairs) (cond b (Some target.0) None)
      pushed b e = target_at-push (is_at (cmp q)) pairs (Some name, target.0) ∙ ap (λ t. or_else (target_at (is_at (cmp q)) pairs) (cond t (Some target.0) None)) e

      by : (b : Bool) → is_at (cmp q) name ≡ b → option_map number_of (get cmp new q) ≡ target_at (is_at (cmp q)) (pairs ++ (Some name, target.0) ∷ [])
      by true e =
          let same : q ≡ name = tells_apart exact q name e in
          let none : target_at (is_at (cmp q)) pairs ≡ None = sym (have q) ∙ ap (λ x. option_map number_of (get cmp old x)) same ∙ ap (option_map number_of) fresh in
          after true e ∙ sym (pushed true e ∙ ap (λ o. or_else o (Some target.0)) none)
      by false e = after false e ∙ have q ∙ sym (pushed false e ∙ or_else-None (target_at (is_at (cmp q)) pairs))

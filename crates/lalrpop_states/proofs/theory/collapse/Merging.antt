-- Placing one more state at its number.
use Rattle.std.proofs.Common.{◌≡◌, ℕ, zero, suc, ◌<◌, ◌≤◌, List, [], ◌∷◌, ◌++◌, length, refl, sym, ap, ◌∙◌, arith, append_assoc, Some, slice_set}
use Rattle.std.specs.Prelude.{slice_get}
use Rattle.std.proofs.lemmas.List.{set-get_or}
use Rattle.std.proofs.lemmas.Option.{get_or_from_slice_get}
use Rattle.lalrpop_collections.specs.Words.{Bits}
use Rattle.lalrpop_states.specs.Words.{IsJoined, Places, pushed, joined}
use Rattle.lalrpop_states.proofs.Types.{State}

-- ---- the elements that a loop over a list has taken, and those that are left
pub taken : {X : Type 0} (all rest yielded left : List X) (x : X) → yielded ++ rest ≡ all → rest ≡ x ∷ left → (yielded ++ x ∷ []) ++ left ≡ all
taken all rest yielded left x e f = append_assoc yielded (x ∷ []) left ∙ ap (λ ys. yielded ++ ys) (sym f) ∙ e

-- ---- setting a value in a list
pub set_here : {X : Type 0} (xs : List X) (k : ℕ) (x : X) → k < length xs → slice_get (slice_set xs k x) k ≡ Some x
set_here [] k x l = absurd (omega arith)
set_here (y ∷ xs) zero x l = refl
set_here (y ∷ xs) (suc k) x l = set_here xs k x (omega arith)

pub set_elsewhere : {X : Type 0} (xs : List X) (k n : ℕ) (x : X) → (n ≡ k → ⊥) → slice_get (slice_set xs k x) n ≡ slice_get xs n
set_elsewhere [] k n x other = refl
set_elsewhere (y ∷ xs) zero zero x other = absurd (other refl)
set_elsewhere (y ∷ xs) zero (suc n) x other = refl
set_elsewhere (y ∷ xs) (suc k) zero x other = refl
set_elsewhere (y ∷ xs) (suc k) (suc n) x other = set_elsewhere xs k n x (λ e. other (ap suc e))

pub set_length : {X : Type 0} (xs : List X) (k : ℕ) (x : X) → length (slice_set xs k x) ≡ length xs
set_length [] k x = refl
set_length (y ∷ xs) zero x = refl
set_length (y ∷ xs) (suc k) x = ap suc (set_length xs k x)

-- setting an element to the value that it has changes nothing
set_same : {X : Type 0} (xs : List X) (k : ℕ) (x : X) → slice_get xs k ≡ Some x → slice_set xs k x ≡ xs
set_same xs k x at = ap (slice_set xs k) (sym (get_or_from_slice_get xs k x x at)) ∙ set-get_or xs k x

pub set_back : {X : Type 0} (xs : List X) (k : ℕ) (x y : X) → slice_get xs k ≡ Some x → y ≡ x → slice_set xs k y ≡ xs
set_back xs k x y at same = ap (slice_set xs k) same ∙ set_same xs k x at

-- ---- the two ways to place a state
pub Places-joined : (state merged here : State Bits) (old new : List (State Bits)) → slice_get old state.index.0 ≡ Some merged → new ≡ slice_set old state.index.0 here → state.index.0 < length old → IsJoined merged state here → Places state old new
Places-joined state merged here old new was set within j all before placed e = joined state placed (record {
  merged = merged;
  joined = here;
  was = was;
  is = ap (λ (xs : List (State Bits)). slice_get xs state.index.0) set ∙ set_here old state.index.0 here within;
  counted = ap length set ∙ set_length old state.index.0 here;
  others = λ k other. ap (λ (xs : List (State Bits)). slice_get xs k) set ∙ set_elsewhere old state.index.0 k here other;
  join = j;
}) e

pub Places-pushed : (state : State Bits) (old new : List (State Bits)) → length old ≤ state.index.0 → new ≡ old ++ state ∷ [] → Places state old new
Places-pushed state old new past push all before placed e = pushed state placed past e push

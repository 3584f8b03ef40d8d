-- Lists of states under new numbers, one more state, and the states at an index.
use Rattle.std.proofs.Common.{◌≡◌, ℕ, zero, suc, Bool, true, false, cond, List, [], ◌∷◌, ◌++◌, length, refl, sym, ap, subst, Some}
use Rattle.std.specs.Prelude.{slice_get}
use Rattle.std.specs.List.{filter}
use Rattle.std.proofs.lemmas.List.{append-nil}
use Rattle.std.proofs.lemmas.List.Elements.{filter-append}
use Rattle.lalrpop_collections.specs.Words.{Bits}
use Rattle.lr1_theory.specs.Words.{AreMoved, and_one, GrowsBy, IsRenumberedState}
use Rattle.lr1_theory.proofs.Types.{State}
use Rattle.lr1_theory.specs.renumbering.Moved.{no_more}
use Rattle.lalrpop_collections.proofs.theory.lists.Places.{same_some}

module _ (new : ℕ → ℕ) where
  pub Moved-append : {before after more others : List (State Bits)} → AreMoved new before after → AreMoved new more others → AreMoved new (before ++ more) (after ++ others)
  Moved-append no_more m = m
  Moved-append (and_one r h) m = and_one r (Moved-append h m)

  moved_more : (p : State Bits → Bool) (takes : Bool) (state : State Bits) (before old grown : List (State Bits)) → AreMoved new (filter p before) old → GrowsBy new takes state old grown → AreMoved new (filter p before ++ cond takes (state ∷ []) []) grown
  moved_more p true state before old grown m g = subst (AreMoved new (filter p before ++ state ∷ [])) (sym g.2) (Moved-append m (and_one g.1 no_more))
  moved_more p false state before old grown m g = subst (λ (xs : List (State Bits)). AreMoved new xs grown) (sym (append-nil (filter p before))) (subst (AreMoved new (filter p before)) (sym g) m)

  -- the list has the states that pass a test under their new numbers, after one more state
  pub Moved-grows : (p : State Bits → Bool) (state : State Bits) (before old grown : List (State Bits)) → AreMoved new (filter p before) old → GrowsBy new (p state) state old grown → AreMoved new (filter p (before ++ state ∷ [])) grown
  Moved-grows p state before old grown m g = subst (λ (xs : List (State Bits)). AreMoved new xs grown) (sym (filter-append p before (state ∷ []))) (moved_more p (p state) state before old grown m g)

  pub Moved-length : {before after : List (State Bits)} → AreMoved new before after → length after ≡ length before
  Moved-length no_more = refl
  Moved-length (and_one r h) = ap suc (Moved-length h)

  -- each state is under its new number at the same index
  pub Moved-at : {before after : List (State Bits)} → AreMoved new before after → (k : ℕ) (state : State Bits) → slice_get before k ≡ Some state → (renumbered : State Bits) × (slice_get after k ≡ Some renumbered) × IsRenumberedState new state renumbered
  Moved-at no_more k state at = cc
  Moved-at (and_one {state = s} {renumbered = t} r h) zero state at = (t, refl, subst (λ (x : State Bits). IsRenumberedState new x t) (same_some s state at) r)
  Moved-at (and_one r h) (suc k) state at = Moved-at h k state at

  -- a list has one more state if it takes it
  pub Grows-taken : (takes : Bool) (state renumbered : State Bits) (old grown : List (State Bits)) → takes ≡ true → IsRenumberedState new state renumbered → grown ≡ old ++ renumbered ∷ [] → GrowsBy new takes state old grown
  Grows-taken true state renumbered old grown e r g = (renumbered, r, g)
  Grows-taken false state renumbered old grown e r g = cc

-- Items by the numbers of their dotted productions.
use Rattle.std.proofs.Common.{◌≡◌, ◌∙◌, ℕ, ◌<◌, List, length, ap, subst, map}
use Rattle.std.specs.Prelude.{◌↔◌, slice_get, Some, Contains}
use Rattle.lalrpop_base.specs.Words.{Dotted}
use Rattle.lalrpop_construction.proofs.Types.{Nil, Production}
use Rattle.lalrpop_collections.proofs.theory.lists.Lists.{contains_map, contains_of_map}
use Rattle.lalrpop_construction.specs.states.NumberedStates.{HasDots}

-- ---- the items of a state
-- the list has the numbers of those items that have numbers
pub record AreNumbered {L : Type 0} (items : List (Dotted Nil)) (done : List (Dotted L)) (list : List ℕ) : Type 0 where
  pub known : (k : ℕ) → Contains list k → k < length items
  pub numbered : (k : ℕ) (i : Dotted Nil) → slice_get items k ≡ Some i → Contains list k ↔ HasDots done i

-- items have a dotted production exactly if the list of their dotted productions does
pub dots_in : {L : Type 0} (items : List (Dotted L)) (i : Dotted Nil) → HasDots items i ↔ Contains {X = Production × ℕ} (map (λ (j : Dotted L). (j.production, j.index)) items) (i.production, i.index)
dots_in {L} items i =
    let parts : Dotted L → Production × ℕ = λ j. (j.production, j.index) in
    let same : Production × ℕ = (i.production, i.index) in (
      λ h.
          let e : parts h.0 ≡ same = ap (λ (p : Production). let q : Production × ℕ = (p, h.0.index) in q) h.2 ∙ ap (λ (n : ℕ). let q : Production × ℕ = (i.production, n) in q) h.3 in
          subst (Contains (map parts items)) e (contains_map parts items h.0 h.1),
      λ c.
          let f = contains_of_map parts items same c in
          (f.0, f.1, ap (λ (q : Production × ℕ). q.0) f.2, ap (λ (q : Production × ℕ). q.1) f.2),
    )

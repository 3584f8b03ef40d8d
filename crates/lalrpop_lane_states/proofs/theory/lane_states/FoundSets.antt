-- Reductions that took sets, each the set at its place.
use Rattle.std.proofs.Common.{◌≡◌, ℕ, zero, suc, List, [], ◌∷◌, length, map, refl, sym, ap, arith, Some}
use Rattle.std.specs.Prelude.{slice_get}
use Rattle.std.specs.Borrow.{Bor}
use Rattle.lalrpop_base.specs.Words.{Bits}
use Rattle.lalrpop_lane_states.proofs.Types.{Production}
use Rattle.lalrpop_lane_states.specs.lane_states.FoundLookaheads.{with_sets}
use Rattle.lalrpop_construction.specs.Words.{by}
use Rattle.lalrpop_collections.proofs.theory.lists.Places.{same_some}

-- a reduction of a state: its tokens and its production
abbrev pub CodeReduction : Type 0
CodeReduction = Bits × Bor Production

-- the set and the old reduction at a place
pub record TookSet (sets : List Bits) (reductions : List CodeReduction) (j : ℕ) (q : CodeReduction) : Type 0 where
  pub set : Bits
  pub old : CodeReduction
  pub found : slice_get sets j ≡ Some set
  pub there : slice_get reductions j ≡ Some old
  pub same : q ≡ (set, old.1)

-- each reduction took the set at its place
pub took_set : (sets : List Bits) (reductions : List CodeReduction) (j : ℕ) (q : CodeReduction) → slice_get (with_sets sets reductions) j ≡ Some q → TookSet sets reductions j q
took_set [] reductions j q at = cc
took_set (set ∷ sets) [] j q at = cc
took_set (set ∷ sets) (r ∷ reductions) zero q at = record { set = set; old = r; found = refl; there = refl; same = let x : CodeReduction = (set, r.1) in sym (same_some x q at) }
took_set (set ∷ sets) (r ∷ reductions) (suc j) q at =
    let t = took_set sets reductions j q at in
    record { set = t.set; old = t.old; found = t.found; there = t.there; same = t.same }

-- the productions stay
pub sets_by : (sets : List Bits) (reductions : List CodeReduction) → length sets ≡ length reductions → map by (with_sets sets reductions) ≡ map by reductions
sets_by [] [] counted = refl
sets_by [] (r ∷ reductions) counted = absurd (omega arith)
sets_by (set ∷ sets) [] counted = absurd (omega arith)
sets_by (set ∷ sets) (r ∷ reductions) counted = ap (λ (ps : List Production). r.1.now ∷ ps) (sets_by sets reductions (omega arith))

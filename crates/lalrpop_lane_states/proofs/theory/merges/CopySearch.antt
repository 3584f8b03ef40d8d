-- The search for a copy of a successor to which a state can be joined.
use Rattle.std.proofs.Common.{◌≡◌, ℕ, ◌+◌, ◌<◌, ◌≤◌, inl, inr, Bool, true, false, length, Option, None, Result, Ok, Err, sym, subst, ◌∙◌, arith}
use Rattle.std.specs.Prelude.{IsFalse, IfErr}
use mathlib.Core.Bool.{true≢false}
use Rattle.std.proofs.lemmas.Bool.{cases_lt}
use Rattle.std.proofs.lemmas.Option.{slice_get_within}
use Rattle.lalrpop_lane_states.proofs.Types.{StateIndex}
use Rattle.lalrpop_collections.proofs.theory.lists.Places.{same_some}
use Rattle.lalrpop_lane_states.specs.Words.{AreUnited, CannotJoin, IsApartIfNone, IsMerging, IsRefusedJoin}
use Rattle.lalrpop_state_graph.specs.Words.{index}
use Rattle.lalrpop_lane_states.specs.declared.lane_table.construct.merge.Merge.{Merge}
use Rattle.lalrpop_lane_states.specs.declared.lane_table.construct.merge.MergeError.{MergeError}
use Rattle.lalrpop_lane_states.specs.declared.lane_table.construct.merge.MergeError.TheVariants.{Apart, CopyLimit, Memory}

-- ---- one state
pub united_apart : (b : Bool) (state successor : StateIndex) (n : ℕ) (old new : Merge) → AreUnited b state (index n) old new → IsFalse b → CannotJoin old state successor n × (new ≡ old)
united_apart true state successor n old new u told = absurd (true≢false told)
united_apart false state successor n old new u told = (λ at other. u.0, u.2)

-- ---- the states from the first copy on
pub apart_more : (old now new : Merge) (state successor : StateIndex) (place : ℕ) → now ≡ old → ((n : ℕ) → old.first_copy ≤ n → n < place → CannotJoin old state successor n) → CannotJoin now state successor place → (n : ℕ) → old.first_copy ≤ n → n < place + 1 → CannotJoin old state successor n
apart_more old now new state successor place same before here n from below = elim (cases_lt n place) [
  | inl less ↦ before n from less
  | inr most ↦
      let is : place ≡ n = omega (arith, most, below) in
      subst (λ k. CannotJoin old state successor k) is (subst (λ (m : Merge). CannotJoin m state successor place) same here)
]

pub apart_all : (old : Merge) (state successor : StateIndex) (place : ℕ) → IsMerging old → length old.originals.items ≤ place → ((n : ℕ) → old.first_copy ≤ n → n < place → CannotJoin old state successor n) → (n : ℕ) → CannotJoin old state successor n
apart_all old state successor place ready past each n at other = elim (cases_lt n old.first_copy) [
  | inl before ↦ absurd (other (same_some n successor.0 (sym (ready.first n before) ∙ at)))
  | inr from ↦ each n from (let l = slice_get_within old.originals.items n successor.0 at in omega (arith, l, past)) at other
]

-- ---- no copy was found
pub none_apart : (copy : Option StateIndex) (state successor : StateIndex) (old new : Merge) → copy ≡ None → IsApartIfNone state successor old new copy → (n : ℕ) → CannotJoin old state successor n
none_apart copy state successor old new none h = (subst (λ (o : Option StateIndex). IsApartIfNone state successor old new o) none h).0

refused : (merge : Merge) (state successor : StateIndex) (error : MergeError) → ((n : ℕ) → CannotJoin merge state successor n) → IsRefusedJoin merge state successor error
refused merge state successor (Apart left right) each = each
refused merge state successor CopyLimit each = each
refused merge state successor Memory each = tt

pub refused_by : {T : Type 0} (r : Result T MergeError) (merge : Merge) (state successor : StateIndex) → ((n : ℕ) → CannotJoin merge state successor n) → IfErr r (IsRefusedJoin merge state successor)
refused_by (Ok x) merge state successor each = tt
refused_by (Err error) merge state successor each = refused merge state successor error each

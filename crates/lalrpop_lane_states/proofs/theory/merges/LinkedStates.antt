-- Edges that are led from a successor to the copy to which a state was joined.
use Rattle.std.proofs.Common.{◌≡◌, ℕ, ◌<◌, ◌==◌, ◌⊎◌, inl, inr, cond, List, [], ◌∷◌, length, Some, slice_set, refl, sym, ap, subst, ◌∙◌, eqb-true, eq-eqb}
use Rattle.std.specs.Prelude.{slice_get}
use mathlib.Core.Bool.{true≢false}
use Rattle.std.proofs.lemmas.Bool.{cases_Bool, cases_eq}
use Rattle.std.proofs.lemmas.Option.{slice_get_within, slice_get-map}
use Rattle.lalrpop_base.specs.Words.{Bits, retargeted, retargeted_all}
use Rattle.lalrpop_lane_states.proofs.Types.{State, StateIndex}
use Rattle.lalrpop_collections.proofs.theory.lists.Lists.{some_of_map}
use Rattle.lalrpop_states.proofs.theory.collapse.Merging.{set_here, set_elsewhere}
use Rattle.lalrpop_collections.proofs.theory.lists.Places.{same_some, filled}
use Rattle.lalrpop_lane_states.specs.Words.{HasEdge, HasTarget, IsRedirected, IsLinked, KeepsStates, replaced_number}
use Rattle.lalrpop_state_graph.specs.Words.{index}
use Rattle.lalrpop_lane_states.specs.merges.Merges.{IsRelinked}
use Rattle.lalrpop_lane_states.specs.declared.lane_table.construct.merge.Merge.{Merge}

-- ---- numbers
replaced_other : (a b t : ℕ) → (b ≡ a → ⊥) → replaced_number a b t ≡ a → ⊥
replaced_other a b t other h = elim (cases_Bool (t == a)) [
  | inl e ↦ other (sym (ap (λ c. cond c b t) e) ∙ h)
  | inr e ↦ let same : t ≡ a = sym (ap (λ c. cond c b t) e) ∙ h in true≢false (sym (eq-eqb t a same) ∙ e)
]

replaced_own : (originals : List ℕ) (a b m t : ℕ) → slice_get originals b ≡ Some a → slice_get originals m ≡ Some m → replaced_number a b t ≡ m → t ≡ m
replaced_own originals a b m t of own h = elim (cases_Bool (t == a)) [
  | inl e ↦
      let is : b ≡ m = sym (ap (λ c. cond c b t) e) ∙ h in
      eqb-true t a e ∙ same_some a m (sym of ∙ ap (slice_get originals) is ∙ own)
  | inr e ↦ sym (ap (λ c. cond c b t) e) ∙ h
]

replaced_itself : (a t : ℕ) → replaced_number a a t ≡ t
replaced_itself a t = elim (cases_Bool (t == a)) [
  | inl e ↦ ap (λ c. cond c a t) e ∙ sym (eqb-true t a e)
  | inr e ↦ ap (λ c. cond c a t) e
]

-- ---- targets
all_itself : {K : Type 0} (a : ℕ) (es : List (K × StateIndex)) → retargeted_all (replaced_number a a) es ≡ es
all_itself a [] = refl
all_itself a (e ∷ es) = ap (λ m. (e.0, index m) ∷ retargeted_all (replaced_number a a) es) (replaced_itself a e.1.0) ∙ ap (λ xs. e ∷ xs) (all_itself a es)

target_from : {K : Type 0} (a b m : ℕ) (before after : List (K × StateIndex)) → after ≡ retargeted_all (replaced_number a b) before → HasTarget after m → (k : ℕ) × (was : K × StateIndex) × (slice_get before k ≡ Some was) × (replaced_number a b was.1.0 ≡ m)
target_from {K} a b m before after same h =
    let f : K × StateIndex → K × StateIndex = λ d. (d.0, retargeted (replaced_number a b) d.1) in
    let w = some_of_map f (slice_get before h.0) h.1 (sym (slice_get-map f before h.0) ∙ ap (λ xs. slice_get xs h.0) (sym same) ∙ h.2) in
    (h.0, w.0, w.1, ap (λ (d : K × StateIndex). d.1.0) w.2 ∙ h.3)

target_other : {K : Type 0} (a b : ℕ) (before after : List (K × StateIndex)) → after ≡ retargeted_all (replaced_number a b) before → (b ≡ a → ⊥) → HasTarget after a → ⊥
target_other a b before after same other h = let w = target_from a b a before after same h in replaced_other a b w.1.1.0 other w.3

target_was : {K : Type 0} (originals : List ℕ) (a b m : ℕ) (before after : List (K × StateIndex)) → after ≡ retargeted_all (replaced_number a b) before → slice_get originals b ≡ Some a → slice_get originals m ≡ Some m → HasTarget after m → HasTarget before m
target_was originals a b m before after same of own h = let w = target_from a b m before after same h in (w.0, w.1, w.2, replaced_own originals a b m w.1.1.0 of own w.3)

-- ---- edges
-- the edges of one state are led to a copy: no edge comes to lead to a state that is its own
-- original
pub linked_edges : (originals : List ℕ) (states : List (State Bits)) (n a b : ℕ) (before after : State Bits) → slice_get states n ≡ Some before → slice_get originals b ≡ Some a → after.shifts.entries ≡ retargeted_all (replaced_number a b) before.shifts.entries → after.gotos.entries ≡ retargeted_all (replaced_number a b) before.gotos.entries →
    (k m : ℕ) → slice_get originals m ≡ Some m → HasEdge (slice_set states n after) k m → HasEdge states k m
linked_edges originals states n a b before after at of shifts gotos k m own h = elim (cases_eq k n) [
  | inl here ↦
      let same : after ≡ h.0 = same_some after h.0 (sym (ap (slice_get (slice_set states n after)) here ∙ set_here states n after (slice_get_within states n before at)) ∙ h.1) in
      let led = subst (λ (s : State Bits). HasTarget s.shifts.entries m ⊎ HasTarget s.gotos.entries m) (sym same) h.2 in (
        before,
        ap (slice_get states) here ∙ at,
        elim led [
          | inl shift ↦ inl (target_was originals a b m before.shifts.entries after.shifts.entries shifts of own shift)
          | inr goto ↦ inr (target_was originals a b m before.gotos.entries after.gotos.entries gotos of own goto)
        ],
      )
  | inr other ↦ (h.0, sym (set_elsewhere states n k after other) ∙ h.1, h.2)
]

-- after that no edge of the state leads to the successor
pub linked_led : (state successor copy : StateIndex) (old new : Merge) → IsLinked state.0 successor.0 copy.0 old.states.items new.states.items → IsRedirected new state successor copy
linked_led state successor copy old new link other h =
    let apart : copy.0 ≡ successor.0 → ⊥ = λ e. other (ap index e) in
    let same : link.target ≡ h.0 = same_some link.target h.0 (sym link.is ∙ h.1) in
    let led = subst (λ (s : State Bits). HasTarget s.shifts.entries successor.0 ⊎ HasTarget s.gotos.entries successor.0) (sym same) h.2 in
    elim led [
      | inl shift ↦ target_other successor.0 copy.0 link.source.shifts.entries link.target.shifts.entries link.shifts apart shift
      | inr goto ↦ target_other successor.0 copy.0 link.source.gotos.entries link.target.gotos.entries link.gotos apart goto
    ]

-- a state that was joined to its successor itself is linked to it
pub linked_itself : (n a : ℕ) (before after : List (State Bits)) → n < length before → after ≡ before → IsLinked n a a before after
linked_itself n a before after listed same =
    let f = filled before n listed in
    record {
      source = f.0;
      target = f.0;
      was = f.1;
      is = ap (λ (xs : List (State Bits)). slice_get xs n) same ∙ f.1;
      others = λ k other apart at. ap (λ (xs : List (State Bits)). slice_get xs k) same ∙ at;
      shifts = sym (all_itself a f.0.shifts.entries);
      gotos = sym (all_itself a f.0.gotos.entries);
    }

-- a state that was joined to a copy is linked to the copy
pub linked_copy : (n a b : ℕ) (before mid after : List (State Bits)) → n < length before → ((k : ℕ) (state : State Bits) → slice_get before k ≡ Some state → slice_get mid k ≡ Some state) → IsRelinked n a b mid after → IsLinked n a b before after
linked_copy n a b before mid after listed kept r =
    let f = filled before n listed in
    let same : f.0 ≡ r.source = same_some f.0 r.source (sym (kept n f.0 f.1) ∙ r.was) in
    record {
      source = r.source;
      target = r.target;
      was = f.1 ∙ ap Some same;
      is = r.is;
      others = λ k other apart at. r.others k apart ∙ kept k other at;
      shifts = r.shifts;
      gotos = r.gotos;
    }

-- ---- states that stay
pub kept_same : (old new : Merge) → new.states ≡ old.states → KeepsStates old new
kept_same old new same n state at = ap (λ xs. slice_get xs.items n) same ∙ at

pub kept_on : (old mid new : Merge) → KeepsStates old mid → KeepsStates mid new → KeepsStates old new
kept_on old mid new a b n state at = b n state (a n state at)

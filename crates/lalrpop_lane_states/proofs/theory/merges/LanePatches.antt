-- The copies of a state take their columns one after the other.
use Rattle.std.proofs.Common.{◌≡◌, ℕ, ◌+◌, ◌<◌, ◌≤◌, ◌⊎◌, inl, inr, Bool, false, List, length, map, Some, refl, sym, ap, subst, ◌∙◌, arith}
use Rattle.std.specs.Prelude.{slice_get, option_map}
use Rattle.std.specs.Borrow.{Bor}
use Rattle.std.proofs.lemmas.Bool.{cases_lt, cases_eq}
use Rattle.std.proofs.lemmas.Option.{slice_get_within, slice_get_cases, slice_get-map}
use Rattle.lalrpop_base.specs.Words.{Bits}
use Rattle.lalrpop_lanes.specs.Words.{AreAmong, IsReductionAt, TookColumn, IsApplied}
use Rattle.lalrpop_lane_states.proofs.Types.{Action, Production, State, StateIndex}
use Rattle.lalrpop_states.specs.declared.lr1_core.state.Action.TheVariants.{Reduce}
use Rattle.lalrpop_collections.proofs.theory.lists.Lists.{some_of_map}
use Rattle.lalrpop_construction.specs.Words.{by}
use Rattle.lalrpop_state_graph.specs.Words.{index, AreCopies}
use Rattle.lalrpop_lane_states.specs.Words.{AreTargetsAmong, AreApart, IsMerging, IsResolvedCopy, IsTaken, TookOwnColumns, context_of}
use Rattle.lalrpop_lane_states.specs.declared.lane_table.construct.merge.context_sets.ContextSets.{ContextSets}
use Rattle.lalrpop_lane_states.specs.declared.lane_table.construct.merge.Merge.{Merge}
use Rattle.lalrpop_lane_states.proofs.theory.merges.LaneCopies.{copies_taken, copies_weaker}
use Rattle.lalrpop_state_graph.proofs.theory.graphs.GraphCopies.{number_at}
use Rattle.lalrpop_lane_states.proofs.theory.lane_states.LaneResolved.{lent_same}
use Rattle.lalrpop_collections.proofs.theory.lists.Places.{same_some, filled}

-- the copies of the inconsistent state before the place took their columns
pub record ArePatched (actions : List Action) (old new : Merge) (n : ℕ) : Type 0 where
  pub same : new ≡ record old { states = new.states }
  pub counted : length new.states.items ≡ length old.states.items
  pub others : (k : ℕ) → (slice_get old.originals.items k ≡ Some old.inconsistent_state.0 → ⊥) → slice_get new.states.items k ≡ slice_get old.states.items k
  pub among : (k : ℕ) (state : State Bits) → slice_get old.originals.items k ≡ Some old.inconsistent_state.0 → slice_get new.states.items k ≡ Some state → AreAmong actions state
  pub copies : (exact : Bool) (handed : List (State Bits)) → AreCopies exact handed old.originals.items old.states.items → AreCopies false handed old.originals.items new.states.items
  pub later : (k : ℕ) → n ≤ k → slice_get new.states.items k ≡ slice_get old.states.items k
  pub taken : (k : ℕ) → k < n → TookOwnColumns actions old new k
  pub resolved : (k : ℕ) (state : State Bits) → k < n → slice_get old.originals.items k ≡ Some old.inconsistent_state.0 → slice_get new.states.items k ≡ Some state → AreApart state.reductions.items

-- ---- a state that took its columns
module _ (actions : List Action) (columns : List Bits) (n : ℕ) (old new : List (State Bits)) (t : IsTaken actions columns n old new) where
  abbrev TookAt : ℕ → Bits × Bor Production → Type 0
  TookAt k r = (was : Bits × Bor Production) × TookColumn actions columns was r

  took_at : (k : ℕ) (r : Bits × Bor Production) → slice_get t.after.reductions.items k ≡ Some r → TookAt k r
  took_at k r at =
      let l = slice_get_within t.after.reductions.items k r at in
      let f = filled t.before.reductions.items k (let e = t.applied.counted in omega arith) in
      (f.0, t.applied.each k f.0 r f.1 at)

  reduced_at : (r was : Bits × Bor Production) → (c : TookColumn actions columns was r) → IsReductionAt actions c.place r.1.now
  reduced_at r was c = subst (λ (b : Bor Production). IsReductionAt actions c.place b.now) (sym c.same) c.action

  taken_among : AreAmong actions t.after
  taken_among k r at = let o = took_at k r at in (o.1.place, reduced_at r o.0 o.1)

  one_production : (place : ℕ) (p q : Production) → IsReductionAt actions place p → IsReductionAt actions place q → p ≡ q
  one_production place p q a b = sym a.same ∙ ap (λ (x : Bor Production). x.now) (lent_same a.lent b.lent (same_some (Reduce a.lent) (Reduce b.lent) (sym a.action ∙ b.action))) ∙ b.same

  pub taken_apart : AreApart t.after.reductions.items
  taken_apart i j bit r q at_i at_j h k =
      let a = took_at i r at_i in
      let b = took_at j q at_j in
      let one : a.1.place ≡ b.1.place = t.disjoint a.1.place b.1.place bit (r.0, a.1.column, h) (q.0, b.1.column, k) in
      one_production b.1.place r.1.now q.1.now (subst (λ p. IsReductionAt actions p r.1.now) one (reduced_at r a.0 a.1)) (reduced_at q b.0 b.1)

-- ---- the walk over all states
module _ (actions : List Action) (old : Merge) where
  abbrev IsTarget : ℕ → Type 0
  IsTarget k = slice_get old.originals.items k ≡ Some old.inconsistent_state.0

  target_or : (k : ℕ) → IsTarget k ⊎ (IsTarget k → ⊥)
  target_or k = elim ((slice_get_cases old.originals.items k).1) [
    | inl at ↦ elim (cases_eq at.0 old.inconsistent_state.0) [ inl same ↦ inl (at.2 ∙ ap Some same) | inr other ↦ inr (λ e. other (same_some at.0 old.inconsistent_state.0 (sym at.2 ∙ e))) ]
    | inr past ↦ inr (λ e. let none = past.1 in cc)
  ]

  -- the reductions of all copies are among the actions, as they are by the same productions as
  -- those of the inconsistent state
  pub targets_among : IsMerging old → ((state : State Bits) → slice_get old.states.items old.inconsistent_state.0 ≡ Some state → AreAmong actions state) → AreTargetsAmong actions old
  targets_among ready here k state target at =
      let c = ready.copies in
      let s = old.inconsistent_state.0 in
      let own : slice_get old.originals.items s ≡ Some s = ready.rows old.inconsistent_state ready.start in
      let first = filled old.states.items s (let l = slice_get_within old.originals.items s s own in let e = c.counted in omega arith) in
      let a = c.each k state at in
      let b = c.each s first.0 first.1 in
      let handed : a.0 ≡ b.0 = same_some a.0 b.0 (sym a.1 ∙ ap (slice_get ready.handed) (number_at old.originals.items k s target ∙ sym (number_at old.originals.items s s own)) ∙ b.1) in
      let alike = a.2.reductions ∙ ap (λ (x : State Bits). map by x.reductions.items) handed ∙ sym b.2.reductions in
      λ j r at_r.
      let q = some_of_map by (slice_get first.0.reductions.items j) (by r) (sym (slice_get-map by first.0.reductions.items j) ∙ ap (λ ps. slice_get ps j) (sym alike) ∙ slice_get-map by state.reductions.items j ∙ ap (option_map by) at_r) in
      let p = here first.0 first.1 j q.0 q.1 in
      (p.0, subst (IsReductionAt actions p.0) q.2 p.1)

  pub patched_start : IsMerging old → AreTargetsAmong actions old → ArePatched actions old old 0
  patched_start ready among = record {
    same = refl;
    counted = refl;
    others = λ k other. refl;
    among = among;
    copies = λ exact handed c. copies_weaker exact handed old.originals.items old.states.items c;
    later = λ k l. refl;
    taken = λ k l. absurd (omega (arith, l));
    resolved = λ k state l. absurd (omega (arith, l));
  }

  module _ (now : Merge) (n : ℕ) (p : ArePatched actions old now n) where
    pub patched_ready : IsMerging old → IsMerging now
    patched_ready ready = subst IsMerging (sym p.same) (record {
      handed = ready.handed;
      copies = p.copies false ready.handed ready.copies;
      visited = let v = ready.visited in let e = p.counted in omega arith;
      rows = ready.rows;
      closed = ready.closed;
      apart = ready.apart;
      contexts = ready.contexts;
      sets = ready.sets;
      start = ready.start;
      first = ready.first;
    })

    now_originals : now.originals.items ≡ old.originals.items
    now_originals = ap (λ (m : Merge). m.originals.items) p.same

    now_start : now.inconsistent_state ≡ old.inconsistent_state
    now_start = ap (λ (m : Merge). m.inconsistent_state) p.same

    now_sets : now.context_sets ≡ old.context_sets
    now_sets = ap (λ (m : Merge). m.context_sets) p.same

    to_now : (k : ℕ) → IsTarget k → slice_get now.originals.items k ≡ Some now.inconsistent_state.0
    to_now k e = ap (λ (xs : List ℕ). slice_get xs k) now_originals ∙ e ∙ ap (λ (s : StateIndex). Some s.0) (sym now_start)

    from_now : (k : ℕ) → slice_get now.originals.items k ≡ Some now.inconsistent_state.0 → IsTarget k
    from_now k e = ap (λ (xs : List ℕ). slice_get xs k) (sym now_originals) ∙ e ∙ ap (λ (s : StateIndex). Some s.0) now_start

    pub patched_among : AreTargetsAmong actions now
    patched_among k state target at = p.among k state (from_now k target) at

    pub patched_copies : (exact : Bool) (handed : List (State Bits)) → AreCopies exact handed old.originals.items old.states.items → AreCopies false handed now.originals.items now.states.items
    patched_copies exact handed c = subst (λ (xs : List ℕ). AreCopies false handed xs now.states.items) (sym now_originals) (p.copies exact handed c)

    pub patched_taken : length old.states.items ≤ n → (k : ℕ) → TookOwnColumns actions old now k
    patched_taken l k before after target was is = p.taken k (let w = slice_get_within old.states.items k before was in omega arith) before after target was is

    pub patched_all : length old.states.items ≤ n → (k : ℕ) → IsResolvedCopy now k
    patched_all l k state target at = p.resolved k state (let w = slice_get_within now.states.items k state at in let e = p.counted in omega arith) (from_now k target) at

    -- nothing changed but the states
    module _ (next : Merge) (same : next ≡ record now { states = next.states }) where
      next_same : next ≡ record old { states = next.states }
      next_same = same ∙ ap (λ (m : Merge). record m { states = next.states }) p.same

      pub patched_none : next.states.items ≡ now.states.items → ArePatched actions old next n
      patched_none e = record {
        same = next_same;
        counted = ap length e ∙ p.counted;
        others = λ k other. ap (λ (xs : List (State Bits)). slice_get xs k) e ∙ p.others k other;
        among = λ k state target at. p.among k state target (ap (λ (xs : List (State Bits)). slice_get xs k) (sym e) ∙ at);
        copies = λ exact handed c. subst (λ (xs : List (State Bits)). AreCopies false handed old.originals.items xs) (sym e) (p.copies exact handed c);
        later = λ k l. ap (λ (xs : List (State Bits)). slice_get xs k) e ∙ p.later k l;
        taken = λ k l before after target was is. p.taken k l before after target was (ap (λ (xs : List (State Bits)). slice_get xs k) (sym e) ∙ is);
        resolved = λ k state l target at. p.resolved k state l target (ap (λ (xs : List (State Bits)). slice_get xs k) (sym e) ∙ at);
      }

      passed : (IsTarget n → ⊥) → ArePatched actions old next n → ArePatched actions old next (n + 1)
      passed other q = record {
        same = q.same;
        counted = q.counted;
        others = q.others;
        among = q.among;
        copies = q.copies;
        later = λ k l. q.later k (omega arith);
        taken = λ k l before after target. elim (cases_lt k n) [
          | inl less ↦ q.taken k less before after target
          | inr most ↦ absurd (other (subst IsTarget (let e : k ≡ n = omega arith in e) target))
        ];
        resolved = λ k state l target at. elim (cases_lt k n) [
          | inl less ↦ q.resolved k state less target at
          | inr most ↦ absurd (other (subst IsTarget (let e : k ≡ n = omega arith in e) target))
        ];
      }

      module _ (target_here : IsTarget n) (t : IsTaken actions (context_of old.context_sets (index n)) n now.states.items next.states.items) where
        here_is : (k : ℕ) (state : State Bits) → k ≡ n → slice_get next.states.items k ≡ Some state → t.after ≡ state
        here_is k state e at = same_some t.after state (sym t.is ∙ ap (slice_get next.states.items) (sym e) ∙ at)

        taken_more : ArePatched actions old next (n + 1)
        taken_more = record {
          same = next_same;
          counted = t.counted ∙ p.counted;
          others = λ k other. t.others k (λ e. other (subst IsTarget (sym e) target_here)) ∙ p.others k other;
          among = λ k state target at. elim (cases_eq k n) [
            | inl here ↦ subst (AreAmong actions) (here_is k state here at) (taken_among actions (context_of old.context_sets (index n)) n now.states.items next.states.items t)
            | inr other ↦ p.among k state target (sym (t.others k other) ∙ at)
          ];
          copies = λ exact handed c. copies_taken handed old.originals.items now.states.items next.states.items actions (context_of old.context_sets (index n)) n (p.copies exact handed c) t;
          later = λ k l. t.others k (λ e. absurd (omega (arith, e, l))) ∙ p.later k (omega arith);
          taken = λ k l before after target was is. elim (cases_eq k n) [
            | inl here ↦
                let first : t.before ≡ before = same_some t.before before (sym t.was ∙ p.later n (omega arith) ∙ ap (slice_get old.states.items) (sym here) ∙ was) in
                subst (λ j. IsApplied actions (context_of old.context_sets (index j)) before after) (sym here)
                (subst (λ (s : State Bits). IsApplied actions (context_of old.context_sets (index n)) before s) (here_is k after here is)
                (subst (λ (s : State Bits). IsApplied actions (context_of old.context_sets (index n)) s t.after) first t.applied))
            | inr other ↦ p.taken k (omega arith) before after target was (sym (t.others k other) ∙ is)
          ];
          resolved = λ k state l target at. elim (cases_eq k n) [
            | inl here ↦ subst (λ (s : State Bits). AreApart s.reductions.items) (here_is k state here at) (taken_apart actions (context_of old.context_sets (index n)) n now.states.items next.states.items t)
            | inr other ↦ p.resolved k state (omega arith) target (sym (t.others k other) ∙ at)
          ];
        }

      pub patched_more : (slice_get now.originals.items n ≡ Some now.inconsistent_state.0 → IsTaken actions (context_of now.context_sets (index n)) n now.states.items next.states.items) → ((slice_get now.originals.items n ≡ Some now.inconsistent_state.0 → ⊥) → next.states.items ≡ now.states.items) → ArePatched actions old next (n + 1)
      patched_more taken left = elim (target_or n) [
        | inl target ↦ taken_more target (subst (λ (sets : ContextSets). IsTaken actions (context_of sets (index n)) n now.states.items next.states.items) now_sets (taken (to_now n target)))
        | inr other ↦ passed other (patched_none (left (λ e. other (from_now n e))))
      ]

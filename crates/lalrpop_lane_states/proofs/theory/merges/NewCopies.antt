-- A new copy of a state, with a set of its own.
use Rattle.std.proofs.Common.{◌≡◌, ℕ, ◌<◌, ◌≤◌, inl, inr, Bool, true, false, List, [], ◌∷◌, ◌++◌, length, Some, sym, ap, subst, ◌∙◌, arith, length-append}
use Rattle.std.specs.Prelude.{slice_get}
use Rattle.std.specs.Borrow.{Bor}
use Rattle.lalrpop_base.specs.Words.{Bits}
use Rattle.lalrpop_lanes.specs.Words.{AreDisjoint}
use Rattle.lalrpop_lane_states.proofs.Types.{State, StateIndex}
use Rattle.lalrpop_lanes.specs.Words.{HasRow, IsRow, IsSuccessor, RowOverlaps}
use Rattle.lalrpop_state_graph.specs.Words.{index, AreCopies}
use Rattle.lalrpop_lane_states.specs.Words.{IsVisited, HaveNoNewMarks, IsContext, IsMerging, HasEdge, KeepsStates}
use Rattle.lalrpop_lane_states.specs.Words.{Advances, unset, IsPushed, IsLonger, IsFreshCopy, set_of, context_of, HasSet, IsMade, AddsColumns}
use Rattle.lalrpop_lane_states.specs.declared.lane_table.construct.merge.Merge.{Merge}
use Rattle.lalrpop_lane_states.specs.declared.lane_table.construct.merge.context_sets.ContextSets.{ContextSets}
use Rattle.lalrpop_lanes.specs.declared.lane_table.table.LaneTable.{LaneTable}
use Rattle.lalrpop_lane_states.proofs.theory.merges.LaneCopies.{copies_pushed}
use Rattle.lalrpop_collections.proofs.theory.lists.Places.{slice_get-append_before, slice_get-longer, slice_get-push_at, push_cases}
use Rattle.lalrpop_lane_states.proofs.theory.merges.Merges.{row_context, sets_advance, sets_ready, unmarked_push, unset-push}

module _ (old : Merge) (ready : IsMerging old) (state copy : StateIndex) (row : List Bits) (sets : ContextSets) (has_row : HasRow old.table.now state) (numbered : copy.0 ≡ length old.states.items) (is_row : IsRow old.table.now state row) (disjoint : AreDisjoint row) (adds : AddsColumns row old.context_sets sets) where
  new_contexts : (k : ℕ) (columns : List Bits) → slice_get sets.contexts.items k ≡ Some columns → IsContext old.table.now columns
  new_contexts k columns at = elim (adds.columns k columns at) [
    | inl was ↦ ready.contexts k columns was
    | inr is ↦ subst (IsContext old.table.now) (sym is) (row_context old.table.now state row is_row disjoint)
  ]

  kept_set : (n : ℕ) → set_of sets (index n) ≡ set_of old.context_sets (index n) → HasSet old.context_sets (index n) → HasSet sets (index n)
  kept_set n same h = record { set = h.set; is = same ∙ h.is; listed = let l = h.listed in let c = adds.counted in omega arith }

  -- no set was made
  pub unmade_advance : ((n : StateIndex) → set_of sets n ≡ set_of old.context_sets n) → Advances old (record old { context_sets = sets })
  unmade_advance same = sets_advance old ready sets
      (sets_ready old ready sets new_contexts (λ n l h. kept_set n (same (index n)) h))
      (λ n m l k e. same (index n) ∙ e ∙ sym (same (index m)))

  module _ (made : IsMade copy row old.context_sets sets) where
    same_below : (n : ℕ) → n < length old.states.items → set_of sets (index n) ≡ set_of old.context_sets (index n)
    same_below n l = made.others (index n) (λ e. let same : n ≡ copy.0 = ap (λ (i : StateIndex). i.0) e in omega arith)

    kept_below : (n m : ℕ) → n < length old.states.items → m < length old.states.items → set_of old.context_sets (index n) ≡ set_of old.context_sets (index m) → set_of sets (index n) ≡ set_of sets (index m)
    kept_below n m l k e = same_below n l ∙ e ∙ sym (same_below m k)

    made_advance : Advances old (record old { context_sets = sets })
    made_advance = sets_advance old ready sets (sets_ready old ready sets new_contexts (λ n l h. kept_set n (same_below n l) h)) kept_below

    -- a set was made, but no copy
    module _ (new : Merge) (l : IsLonger (record old { context_sets = sets }) new) where
      longer_marks : length old.visited.items ≤ length new.visited.items
      longer_marks = elim l.visited [
        | inl same ↦ let e = ap length same in omega arith
        | inr pushed ↦ let e = ap length pushed ∙ length-append old.visited.items (false ∷ []) in omega arith
      ]

      longer_kept : (n : ℕ) → IsVisited old n → IsVisited new n
      longer_kept n h = elim l.visited [
        | inl same ↦ ap (λ (ms : List Bool). slice_get ms n) same ∙ h
        | inr pushed ↦ ap (λ (ms : List Bool). slice_get ms n) pushed ∙ slice_get-longer old.visited.items (false ∷ []) n true h
      ]

      pub unpushed_marks : HaveNoNewMarks old new
      unpushed_marks n h = elim l.visited [
        | inl same ↦ ap (λ (ms : List Bool). slice_get ms n) (sym same) ∙ h
        | inr pushed ↦ unmarked_push old.visited.items n (ap (λ (ms : List Bool). slice_get ms n) (sym pushed) ∙ h)
      ]

      pub unpushed_advance : Advances old new
      unpushed_advance =
          let mid : Advances old (record old { context_sets = sets }) = made_advance in
          record {
            ready = record {
              handed = ready.handed;
              copies = subst (λ (xs : List (State Bits)). AreCopies false ready.handed new.originals.items xs) (sym l.states) (subst (λ (xs : List ℕ). AreCopies false ready.handed xs old.states.items) (sym l.originals) ready.copies);
              visited = let v = ready.visited in let w = longer_marks in let s = ap length l.states in omega arith;
              rows = λ s r. ap (λ (xs : List ℕ). slice_get xs s.0) l.originals ∙ ready.rows s (subst (λ (t : Bor LaneTable). HasRow t.now s) l.table r);
              closed = λ left right e. subst (λ (t : Bor LaneTable). HasRow t.now right) (sym l.table) (ready.closed left right (subst (λ (t : Bor LaneTable). IsSuccessor t.now left right) l.table e));
              apart = subst (λ (t : Bor LaneTable). (s : StateIndex) → HasRow t.now s → ¬ RowOverlaps t.now s) (sym l.table) ready.apart;
              contexts = λ k columns at. subst (λ (t : Bor LaneTable). IsContext t.now columns) (sym l.table) (new_contexts k columns (subst (λ (s : ContextSets). slice_get s.contexts.items k ≡ Some columns) l.sets at));
              sets = λ n o at r. subst (λ (s : ContextSets). HasSet s (index n)) (sym l.sets) (mid.ready.sets n o (subst (λ (xs : List ℕ). slice_get xs n ≡ Some o) l.originals at) (subst (λ (t : Bor LaneTable). HasRow t.now (index o)) l.table r));
              start = subst (λ (t : Bor LaneTable). HasRow t.now new.inconsistent_state) (sym l.table) (subst (HasRow old.table.now) (sym l.start) ready.start);
              first = λ n k. ap (λ (xs : List ℕ). slice_get xs n) l.originals ∙ ready.first n (let f = l.first in omega (arith, k, f));
            };
            table = l.table;
            start = l.start;
            longer = let s = ap length l.states in omega arith;
            counted = let s = ap length l.states in let k = l.left in omega arith;
            originals = λ n o e. ap (λ (xs : List ℕ). slice_get xs n) l.originals ∙ e;
            copies = λ exact handed c. subst (λ (xs : List (State Bits)). AreCopies exact handed new.originals.items xs) (sym l.states) (subst (λ (xs : List ℕ). AreCopies exact handed xs old.states.items) (sym l.originals) c);
            sets = λ n m x y e. subst (λ (s : ContextSets). set_of s (index n) ≡ set_of s (index m)) (sym l.sets) (kept_below n m x y e);
            marks = longer_kept;
            edges = λ n m x own h. subst (λ (xs : List (State Bits)). HasEdge xs n m) l.states h;
          }

      pub unpushed_states : KeepsStates old new
      unpushed_states n s e = ap (λ (xs : List (State Bits)). slice_get xs n) l.states ∙ e

    module _ (source fresh : State Bits) (at : slice_get old.states.items state.0 ≡ Some source) (index_is : fresh.index.0 ≡ length old.states.items) (items : fresh.items.vec.items ≡ source.items.vec.items) (shifts : fresh.shifts.entries ≡ source.shifts.entries) (reductions : fresh.reductions.items ≡ source.reductions.items) (gotos : fresh.gotos.entries ≡ source.gotos.entries)
        (new : Merge) (p : IsPushed fresh state.0 (record old { context_sets = sets }) new) where
      new_copies : (exact : Bool) (handed : List (State Bits)) → AreCopies exact handed old.originals.items old.states.items → AreCopies exact handed new.originals.items new.states.items
      new_copies exact handed c = subst (λ (xs : List (State Bits)). AreCopies exact handed new.originals.items xs) (sym p.states)
          (subst (λ (xs : List ℕ). AreCopies exact handed xs (old.states.items ++ fresh ∷ [])) (sym p.originals)
          (copies_pushed exact handed old.originals.items old.states.items c state.0 source fresh at (ready.rows state has_row) index_is items shifts reductions gotos))

      new_originals : (n o : ℕ) → slice_get old.originals.items n ≡ Some o → slice_get new.originals.items n ≡ Some o
      new_originals n o e = ap (λ (xs : List ℕ). slice_get xs n) p.originals ∙ slice_get-longer old.originals.items (state.0 ∷ []) n o e

      new_sets : (n o : ℕ) → slice_get (old.originals.items ++ state.0 ∷ []) n ≡ Some o → HasRow old.table.now (index o) → HasSet sets (index n)
      new_sets n o e r = elim (push_cases old.originals.items state.0 n o e) [
        | inl was ↦ made_advance.ready.sets n o was r
        | inr last ↦ subst (HasSet sets) (ap index (numbered ∙ sym ready.copies.counted ∙ sym last.0)) made.has
      ]

      pub pushed_advance : Advances old new
      pushed_advance = record {
        ready = record {
          handed = ready.handed;
          copies = new_copies false ready.handed ready.copies;
          visited = let v = ready.visited in let w = ap length p.visited ∙ length-append old.visited.items (false ∷ []) in let s = ap length p.states ∙ length-append old.states.items (fresh ∷ []) in omega arith;
          rows = λ s r. new_originals s.0 s.0 (ready.rows s (subst (λ (t : Bor LaneTable). HasRow t.now s) p.table r));
          closed = λ left right e. subst (λ (t : Bor LaneTable). HasRow t.now right) (sym p.table) (ready.closed left right (subst (λ (t : Bor LaneTable). IsSuccessor t.now left right) p.table e));
          apart = subst (λ (t : Bor LaneTable). (s : StateIndex) → HasRow t.now s → ¬ RowOverlaps t.now s) (sym p.table) ready.apart;
          contexts = λ k columns at. subst (λ (t : Bor LaneTable). IsContext t.now columns) (sym p.table) (new_contexts k columns (subst (λ (s : ContextSets). slice_get s.contexts.items k ≡ Some columns) p.sets at));
          sets = λ n o e r. subst (λ (s : ContextSets). HasSet s (index n)) (sym p.sets) (new_sets n o (subst (λ (xs : List ℕ). slice_get xs n ≡ Some o) p.originals e) (subst (λ (t : Bor LaneTable). HasRow t.now (index o)) p.table r));
          start = subst (λ (t : Bor LaneTable). HasRow t.now new.inconsistent_state) (sym p.table) (subst (HasRow old.table.now) (sym p.start) ready.start);
          first = λ n k. new_originals n n (ready.first n (let f = p.first in omega (arith, k, f)));
        };
        table = p.table;
        start = p.start;
        longer = let s = ap length p.states ∙ length-append old.states.items (fresh ∷ []) in omega arith;
        counted = let s = ap length p.states ∙ length-append old.states.items (fresh ∷ []) in let k = p.left in omega arith;
        originals = new_originals;
        copies = new_copies;
        sets = λ n m x y e. subst (λ (s : ContextSets). set_of s (index n) ≡ set_of s (index m)) (sym p.sets) (kept_below n m x y e);
        marks = λ n h. ap (λ (ms : List Bool). slice_get ms n) p.visited ∙ slice_get-longer old.visited.items (false ∷ []) n true h;
        edges = λ n m l own h. (h.0, sym (ap (λ (xs : List (State Bits)). slice_get xs n) p.states ∙ slice_get-append_before old.states.items (fresh ∷ []) n l) ∙ h.1, h.2);
      }

      pub pushed_states : KeepsStates old new
      pushed_states n s e = ap (λ (xs : List (State Bits)). slice_get xs n) p.states ∙ slice_get-longer old.states.items (fresh ∷ []) n s e

      pub pushed_marks : HaveNoNewMarks old new
      pushed_marks n h = unmarked_push old.visited.items n (ap (λ (ms : List Bool). slice_get ms n) (sym p.visited) ∙ h)

      pub pushed_fresh : IsFreshCopy state copy old new
      pushed_fresh = record {
        original = ap (slice_get new.originals.items) (numbered ∙ sym ready.copies.counted) ∙ ap (λ (xs : List ℕ). slice_get xs (length old.originals.items)) p.originals ∙ slice_get-push_at old.originals.items state.0;
        row = subst (λ (t : Bor LaneTable). IsRow t.now state (context_of new.context_sets copy)) (sym p.table) (subst (λ (s : ContextSets). IsRow old.table.now state (context_of s copy)) (sym p.sets) (subst (IsRow old.table.now state) (sym made.own) is_row));
        unvisited_same = let v = ap unset p.visited ∙ unset-push old.visited.items in let k = p.left in omega arith;
      }

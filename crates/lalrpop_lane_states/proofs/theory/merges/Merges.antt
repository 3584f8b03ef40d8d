-- The facts that each step of a merge keeps.
use Rattle.std.proofs.Common.{◌≡◌, ℕ, zero, suc, ◌+◌, ◌<◌, ◌⊎◌, inl, inr, Bool, true, false, List, [], ◌∷◌, ◌++◌, length, Some, Result, Ok, Err, IfOk, OnErr, OnOk, MatchBool, slice_set, refl, sym, ap, subst, ◌∙◌, arith, length-append}
use Rattle.std.specs.Prelude.{slice_get, IsTrue, Contains, ◌↔◌}
use Rattle.std.specs.Borrow.{Bor}
use Rattle.std.specs.declared.alloc.Global.{Global}
use Rattle.std.specs.declared.vec.Vec.{Vec}
use Rattle.std.specs.Vec.{with_item}
use Rattle.std.proofs.lemmas.Bool.{cases_lt, cases_eq, or_cases}
use Rattle.std.proofs.lemmas.Option.{slice_get_within}
use Rattle.lalrpop_base.specs.Words.{Bits, has, join, has-join, AreCoherent}
use Rattle.lalrpop_lanes.specs.Words.{AreDisjoint, HasAt, IsUnion, MeetInUnion}
use Rattle.lalrpop_lane_states.proofs.Types.{State, StateIndex}
use Rattle.std.specs.Map.{keys_of}
use mathlib.Core.Bool.{true≢false}
use Rattle.lalrpop_collections.proofs.theory.lists.Lists.{contains_of_map}
use Rattle.lalrpop_lanes.specs.Words.{Rows, ColumnsOverlap, HasRow, IsClosed, IsRow, IsSuccessor, RowOverlaps}
use Rattle.lalrpop_state_graph.specs.Words.{index}
use Rattle.lalrpop_lane_states.specs.Words.{IsVisited, IsContext, IsMerging, HasOriginalRow, Advances, HasEdge, IsRedirected, unset, unvisited}
use Rattle.lalrpop_state_graph.specs.Words.{AreCopies}
use Rattle.lalrpop_lane_states.specs.Words.{AreUnited, IsJoinedCopy, IsApart, set_of, context_of, HasSet, AreJoined, OwnSets}
use Rattle.lalrpop_lane_states.specs.merges.Merges.{OriginalLeadsTo}
use Rattle.lalrpop_lane_states.specs.declared.lane_table.construct.merge.Merge.{Merge}
use Rattle.lalrpop_lane_states.specs.declared.lane_table.construct.merge.context_sets.ContextSets.{ContextSets}
use Rattle.lalrpop_lanes.specs.declared.lane_table.table.LaneTable.{LaneTable}
use Rattle.lalrpop_lane_states.proofs.theory.merges.LaneCopies.{copies_coherent, copies_own, copies_weaker}
use Rattle.lalrpop_states.proofs.theory.collapse.Merging.{set_here, set_elsewhere, set_length}
use Rattle.lalrpop_collections.proofs.theory.lists.Places.{same_some, filled, slice_get-longer, slice_get-push_at, push_cases}
use Rattle.lalrpop_lane_states.proofs.theory.merges.StateSets.{columns_at}

-- ---- numbers
pub numbers_more : (xs ys : List ℕ) (n : ℕ) → length xs ≡ n → ((k : ℕ) → k < n → slice_get xs k ≡ Some k) → ys ≡ xs ++ n ∷ [] → (length ys ≡ n + 1) × ((k : ℕ) → k < n + 1 → slice_get ys k ≡ Some k)
numbers_more xs ys n counted own pushed = (
  ap length pushed ∙ length-append xs (n ∷ []) ∙ ap (λ m. m + 1) counted,
  λ k l. ap (λ (zs : List ℕ). slice_get zs k) pushed ∙ elim (cases_lt k n) [
    | inl less ↦ slice_get-longer xs (n ∷ []) k k (own k less)
    | inr most ↦ let here : k ≡ length xs = omega arith in ap (slice_get (xs ++ n ∷ [])) here ∙ slice_get-push_at xs n ∙ ap Some (sym counted ∙ sym here)
  ],
)

pub on_ok : {A E P Q : Type 0} (r : Result A E) → OnOk r P → (P → Q) → OnOk r Q
on_ok (Ok x) h f = f h
on_ok (Err e) h f = h

-- ---- marks
pub unset-push : (marks : List Bool) → unset (marks ++ false ∷ []) ≡ unset marks + 1
unset-push [] = omega arith
unset-push (true ∷ marks) = unset-push marks
unset-push (false ∷ marks) = let e = unset-push marks in omega arith

pub unset-set : (marks : List Bool) (n : ℕ) → slice_get marks n ≡ Some false → unset (slice_set marks n true) + 1 ≡ unset marks
unset-set [] n e = cc
unset-set (true ∷ marks) zero e = cc
unset-set (false ∷ marks) zero e = omega arith
unset-set (true ∷ marks) (suc n) e = unset-set marks n e
unset-set (false ∷ marks) (suc n) e = let h = unset-set marks n e in omega arith

-- a new mark that is not set adds no set mark
pub unmarked_push : (marks : List Bool) (n : ℕ) → slice_get (marks ++ false ∷ []) n ≡ Some true → slice_get marks n ≡ Some true
unmarked_push marks n h = elim (push_cases marks false n true h) [ inl was ↦ was | inr last ↦ absurd (true≢false (sym last.1)) ]

-- ---- unions of contexts
module _ (table : LaneTable) (a b c : List Bits) (u : IsUnion a b c) (apart : ¬ MeetInUnion a b) (of_a : IsContext table a) (of_b : IsContext table b) where
  in_either : (k bit : ℕ) → HasAt c k bit → HasAt a k bit ⊎ HasAt b k bit
  in_either k bit h =
      let l : k < length c = slice_get_within c k h.0 h.1 in
      let s = filled a k (let e = u.counted in omega arith) in
      let t = filled b k (let e = u.counted in let f = of_a.counted in let g = of_b.counted in omega arith) in
      let is : h.0 ≡ join s.0 t.0 = same_some h.0 (join s.0 t.0) (sym h.1 ∙ u.joined k s.0 t.0 s.1 t.1) in
      elim (or_cases (has s.0 bit) (has t.0 bit) (sym (has-join s.0 t.0 bit) ∙ sym (ap (λ x. has x bit) is) ∙ h.2)) [
        | inl x ↦ inl (s.0, s.1, x)
        | inr y ↦ inr (t.0, t.1, y)
      ]

  across : (i j bit : ℕ) → HasAt a i bit → HasAt b j bit → i ≡ j
  across i j bit here there = elim (cases_eq i j) [
    | inl e ↦ e
    | inr ne ↦ absurd (apart (record { index = j; other = i; apart = ne; bit = bit; here = there; there = inl here }))
  ]

  union_disjoint : AreDisjoint c
  union_disjoint i j bit here there = elim (in_either i bit here) [
    | inl x ↦ elim (in_either j bit there) [ inl y ↦ of_a.disjoint i j bit x y | inr y ↦ across i j bit x y ]
    | inr x ↦ elim (in_either j bit there) [ inl y ↦ sym (across j i bit y x) | inr y ↦ of_b.disjoint i j bit x y ]
  ]

  joint_context : IsContext table c
  joint_context = record {
    counted = u.counted ∙ of_a.counted;
    disjoint = union_disjoint;
    tokens = λ k bit h. elim (in_either k bit h) [ inl x ↦ of_a.tokens k bit x | inr y ↦ of_b.tokens k bit y ];
  }

meeting_overlaps : (table : LaneTable) (a b : List Bits) → IsContext table a → IsContext table b → MeetInUnion a b → ColumnsOverlap table
meeting_overlaps table a b of_a of_b m = record {
  first = m.other;
  second = m.index;
  apart = m.apart;
  bit = m.bit;
  here = elim m.there [ inl x ↦ of_a.tokens m.other m.bit x | inr y ↦ of_b.tokens m.other m.bit y ];
  there = of_b.tokens m.index m.bit m.here;
}

pub row_context : (table : LaneTable) (state : StateIndex) (row : List Bits) → IsRow table state row → AreDisjoint row → IsContext table row
row_context table state row r disjoint = record { counted = r.counted; disjoint = disjoint; tokens = λ k bit h. (state, (r.tokens k bit).0 h) }

-- ---- steps
pub advances_none : (merge : Merge) → IsMerging merge → Advances merge merge
advances_none merge ready = record { ready = ready; table = refl; start = refl; longer = omega arith; counted = refl; originals = λ n o e. e; copies = λ exact handed c. c; sets = λ n m l k e. e; marks = λ n h. h; edges = λ n m l own h. h }

pub advances_on : (a b c : Merge) → Advances a b → Advances b c → Advances a c
advances_on a b c x y = record {
  ready = y.ready;
  table = y.table ∙ x.table;
  start = y.start ∙ x.start;
  longer = let l = x.longer in let k = y.longer in omega arith;
  counted = y.counted ∙ x.counted;
  originals = λ n o e. y.originals n o (x.originals n o e);
  copies = λ exact handed k. y.copies exact handed (x.copies exact handed k);
  sets = λ n m l k e. let d = x.longer in y.sets n m (omega arith) (omega arith) (x.sets n m l k e);
  marks = λ n h. y.marks n (x.marks n h);
  edges = λ n m l own h. let d = x.longer in x.edges n m l own (y.edges n m (omega arith) (x.originals m m own) h);
}

pub row_on : (old new : Merge) → Advances old new → (s : StateIndex) → HasRow old.table.now s → HasRow new.table.now s
row_on old new a s row = subst (λ (t : Bor LaneTable). HasRow t.now s) (sym a.table) row

pub walked_on : (old new : Merge) → Advances old new → (s : StateIndex) → HasOriginalRow old s → HasOriginalRow new s
walked_on old new a s w = record { original = w.original; there = a.originals s.0 w.original w.there; row = row_on old new a (index w.original) w.row }

pub leads_on : (old new : Merge) → Advances old new → (state successor : StateIndex) → HasOriginalRow old state → OriginalLeadsTo old state successor → OriginalLeadsTo new state successor
leads_on old new a state successor w leads o at =
    let same : w.original ≡ o = same_some w.original o (sym (a.originals state.0 w.original w.there) ∙ at) in
    subst (λ n. IsSuccessor new.table.now (index n) successor) same (subst (λ (t : Bor LaneTable). IsSuccessor t.now (index w.original) successor) (sym a.table) (leads w.original w.there))

-- a successor is a state of the table, and is its own original
module _ (merge : Merge) (ready : IsMerging merge) (state successor : StateIndex) (w : HasOriginalRow merge state) (leads : OriginalLeadsTo merge state successor) where
  pub successor_row : HasRow merge.table.now successor
  successor_row = ready.closed (index w.original) successor (leads w.original w.there)

  pub successor_own : slice_get merge.originals.items successor.0 ≡ Some successor.0
  successor_own = ready.rows successor successor_row

  pub successor_walked : HasOriginalRow merge successor
  successor_walked = record { original = successor.0; there = successor_own; row = successor_row }

pub row_walked : (merge : Merge) → IsMerging merge → (state : StateIndex) → HasRow merge.table.now state → HasOriginalRow merge state
row_walked merge ready state row = record { original = state.0; there = ready.rows state row; row = row }

-- a copy of a state with a row can be walked from
pub copy_walked : (merge : Merge) (successor copy : StateIndex) → HasRow merge.table.now successor → slice_get merge.originals.items copy.0 ≡ Some successor.0 → HasOriginalRow merge copy
copy_walked merge successor copy row at = record { original = successor.0; there = at; row = row }

pub walked_listed : (merge : Merge) → IsMerging merge → (s : StateIndex) → HasOriginalRow merge s → s.0 < length merge.states.items
walked_listed merge ready s w = let l : s.0 < length merge.originals.items = slice_get_within merge.originals.items s.0 w.original w.there in let e = ready.copies.counted in omega arith

pub walked_set : (merge : Merge) → IsMerging merge → (s : StateIndex) → HasOriginalRow merge s → HasSet merge.context_sets s
walked_set merge ready s w = ready.sets s.0 w.original w.there w.row

pub walked_context : (merge : Merge) → IsMerging merge → (s : StateIndex) → HasOriginalRow merge s → IsContext merge.table.now (context_of merge.context_sets s)
walked_context merge ready s w =
    let h = walked_set merge ready s w in
    let c = filled merge.context_sets.contexts.items h.set.index h.listed in
    subst (IsContext merge.table.now) (sym (columns_at merge.context_sets s h.set c.0 h.is c.1)) (ready.contexts h.set.index c.0 c.1)

pub contexts_counted : (merge : Merge) → IsMerging merge → (s t : StateIndex) → HasOriginalRow merge s → HasOriginalRow merge t → length (context_of merge.context_sets s) ≡ length (context_of merge.context_sets t)
contexts_counted merge ready s t w v = (walked_context merge ready s w).counted ∙ sym (walked_context merge ready t v).counted

-- a join that was made stays
module _ (old new : Merge) (ready : IsMerging old) (a : Advances old new) where
  listed : (n o : ℕ) → slice_get old.originals.items n ≡ Some o → n < length old.states.items
  listed n o at = let l = slice_get_within old.originals.items n o at in let e = ready.copies.counted in omega arith

  pub copy_on : (n o : ℕ) (right copy : StateIndex) → slice_get old.originals.items n ≡ Some o → IsJoinedCopy (index n) right copy old → IsJoinedCopy (index n) right copy new
  copy_on n o right copy at j = record { original = a.originals copy.0 right.0 j.original; together = a.sets n copy.0 (listed n o at) (listed copy.0 right.0 j.original) j.together }

  -- no edge comes to lead to the successor
  pub led_on : (n o : ℕ) (right copy : StateIndex) → slice_get old.originals.items n ≡ Some o → slice_get old.originals.items right.0 ≡ Some right.0 → IsRedirected old (index n) right copy → IsRedirected new (index n) right copy
  led_on n o right copy at own led other h = led other (a.edges n right.0 (listed n o at) own h)

-- ---- other sets
module _ (old : Merge) (ready : IsMerging old) (sets : ContextSets) where
  abbrev with_sets : Merge
  with_sets = record old { context_sets = sets }

  pub sets_ready : ((k : ℕ) (columns : List Bits) → slice_get sets.contexts.items k ≡ Some columns → IsContext old.table.now columns) → ((n : ℕ) → n < length old.states.items → HasSet old.context_sets (index n) → HasSet sets (index n)) → IsMerging with_sets
  sets_ready contexts has = record {
    handed = ready.handed;
    copies = ready.copies;
    visited = ready.visited;
    rows = ready.rows;
    closed = ready.closed;
    apart = ready.apart;
    contexts = contexts;
    sets = λ n o at row. has n (let l = slice_get_within old.originals.items n o at in let e = ready.copies.counted in omega arith) (ready.sets n o at row);
    start = ready.start;
    first = ready.first;
  }

  pub sets_advance : IsMerging with_sets → ((n m : ℕ) → n < length old.states.items → m < length old.states.items → set_of old.context_sets (index n) ≡ set_of old.context_sets (index m) → set_of sets (index n) ≡ set_of sets (index m)) → Advances old with_sets
  sets_advance new_ready kept = record { ready = new_ready; table = refl; start = refl; longer = omega arith; counted = refl; originals = λ n o e. e; copies = λ exact handed c. c; sets = kept; marks = λ n h. h; edges = λ n m l own h. h }

  module _ (source target : StateIndex) (w : HasOriginalRow old source) (v : HasOriginalRow old target) where
    joined_advance : AreJoined source target old.context_sets sets → Advances old with_sets
    joined_advance j = sets_advance
        (sets_ready
        (λ k columns at. elim (j.columns k columns at) [
          | inl was ↦ ready.contexts k columns was
          | inr joint ↦ joint_context old.table.now (context_of old.context_sets source) (context_of old.context_sets target) columns joint.0 joint.1 (walked_context old ready source w) (walked_context old ready target v)
        ])
        (λ n l h. j.has (index n) h))
        (λ n m l k e. j.kept (index n) (index m) e)

    same_advance : sets ≡ old.context_sets → Advances old with_sets
    same_advance e = subst (λ (s : ContextSets). Advances old (record old { context_sets = s })) (sym e) (advances_none old ready)

    pub union_advances : {E : Type 0} (r : Result Bool E) → IfOk r (λ b. MatchBool b (AreJoined source target old.context_sets sets) (MeetInUnion (context_of old.context_sets source) (context_of old.context_sets target) × (sets ≡ old.context_sets))) → OnErr r (sets ≡ old.context_sets) → Advances old with_sets
    union_advances (Ok true) j e = joined_advance j
    union_advances (Ok false) j e = same_advance j.1
    union_advances (Err x) j e = same_advance e

    pub union_united : (b : Bool) → MatchBool b (AreJoined source target old.context_sets sets) (MeetInUnion (context_of old.context_sets source) (context_of old.context_sets target) × (sets ≡ old.context_sets)) → AreUnited b source target old with_sets
    union_united true j = j.same
    union_united false j = (j.0, meeting_overlaps old.table.now (context_of old.context_sets source) (context_of old.context_sets target) (walked_context old ready source w) (walked_context old ready target v) j.0, ap (λ (s : ContextSets). record old { context_sets = s }) j.1)

-- if the sets of a state and a copy are one, the state is joined to the copy
pub united_copy : (b : Bool) (state successor copy : StateIndex) (old new : Merge) → slice_get new.originals.items copy.0 ≡ Some successor.0 → AreUnited b state copy old new → IsTrue b → IsJoinedCopy state successor copy new
united_copy true state successor copy old new original u h = record { original = original; together = u }
united_copy false state successor copy old new original u h = absurd (true≢false (sym h))

-- ---- a mark is set
marked_advance : (merge : Merge) (visited : Vec Bool Global) → IsMerging merge → length visited.items ≡ length merge.visited.items → ((n : ℕ) → slice_get merge.visited.items n ≡ Some true → slice_get visited.items n ≡ Some true) → Advances merge (record merge { visited = visited })
marked_advance merge visited ready counted marks = record {
  ready = record {
    handed = ready.handed;
    copies = ready.copies;
    visited = let v = ready.visited in omega arith;
    rows = ready.rows;
    closed = ready.closed;
    apart = ready.apart;
    contexts = ready.contexts;
    sets = ready.sets;
    start = ready.start;
    first = ready.first;
  };
  table = refl;
  start = refl;
  longer = omega arith;
  counted = refl;
  originals = λ n o e. e;
  copies = λ exact handed c. c;
  sets = λ n m l k e. e;
  marks = marks;
  edges = λ n m l own h. h;
}

abbrev pub marked : Merge → StateIndex → Merge
marked merge s = record merge { visited = with_item merge.visited s.0 true }

pub mark_listed : (merge : Merge) → IsMerging merge → (s : StateIndex) → HasOriginalRow merge s → s.0 < length merge.visited.items
mark_listed merge ready s w = let l = walked_listed merge ready s w in let v = ready.visited in omega arith

pub mark_advance : (merge : Merge) (s : StateIndex) → IsMerging merge → HasOriginalRow merge s → Advances merge (marked merge s)
mark_advance merge s ready w = marked_advance merge (with_item merge.visited s.0 true) ready (set_length merge.visited.items s.0 true) (λ n h. elim (cases_eq n s.0) [
  | inl here ↦ ap (slice_get (slice_set merge.visited.items s.0 true)) here ∙ set_here merge.visited.items s.0 true (mark_listed merge ready s w)
  | inr other ↦ set_elsewhere merge.visited.items s.0 n true other ∙ h
])

pub mark_there : (merge : Merge) (s : StateIndex) → IsMerging merge → HasOriginalRow merge s → IsVisited (marked merge s) s.0
mark_there merge s ready w = set_here merge.visited.items s.0 true (mark_listed merge ready s w)

pub mark_cases : (merge : Merge) (s : StateIndex) (n : ℕ) → IsVisited (marked merge s) n → IsVisited merge n ⊎ (n ≡ s.0)
mark_cases merge s n h = elim (cases_eq n s.0) [ inl here ↦ inr here | inr other ↦ inl (sym (set_elsewhere merge.visited.items s.0 n true other) ∙ h) ]

pub mark_less : (merge : Merge) (s : StateIndex) → slice_get merge.visited.items s.0 ≡ Some false → unvisited (marked merge s) + 1 ≡ unvisited merge
mark_less merge s at = let e = unset-set merge.visited.items s.0 at in omega arith

-- ---- the beginning
module _ (merge : Merge) (rows : Rows) (coherent : AreCoherent merge.states.items) (closed : IsClosed (length merge.states.items) merge.table.now) (keys : (state : StateIndex) → Contains (keys_of rows) state ↔ HasRow merge.table.now state)
    (each : (state : StateIndex) (row : List Bits) → Contains rows (state, row) → IsRow merge.table.now state row × AreDisjoint row) (start : HasRow merge.table.now merge.inconsistent_state) (own_sets : OwnSets rows merge.context_sets)
    (counted : length merge.originals.items ≡ length merge.states.items) (own : (n : ℕ) → n < length merge.states.items → slice_get merge.originals.items n ≡ Some n) (visited : length merge.visited.items ≡ length merge.states.items) (before : merge.first_copy ≡ length merge.states.items) where
  row_listed : (s : StateIndex) → HasRow merge.table.now s → s.0 < length merge.states.items
  row_listed s row = elim row [ inl cell ↦ closed.cells s cell.0 cell.1 | inr next ↦ (closed.numbers s next.0 next.1).0 ]

  row_there : (s : StateIndex) → HasRow merge.table.now s → (row : List Bits) × Contains rows (s, row)
  row_there s row = let e = contains_of_map (λ (x : StateIndex × List Bits). x.0) rows s ((keys s).1 row) in (e.0.1, subst (λ (k : StateIndex). Contains rows (k, e.0.1)) e.2 e.1)

  no_overlap : (s : StateIndex) → HasRow merge.table.now s → ¬ RowOverlaps merge.table.now s
  no_overlap s row o =
      let r = row_there s row in
      let h = each s r.0 r.1 in
      o.apart (h.1 o.first o.second o.bit ((h.0.tokens o.first o.bit).1 o.here) ((h.0.tokens o.second o.bit).1 o.there))

  pub new_merging : IsMerging merge
  new_merging = record {
    handed = merge.states.items;
    copies = copies_weaker true merge.states.items merge.originals.items merge.states.items (copies_own merge.originals.items merge.states.items coherent counted own);
    visited = omega arith;
    rows = λ s row. own s.0 (row_listed s row);
    closed = closed.rows;
    apart = no_overlap;
    contexts = λ k columns at. let r = own_sets.columns k columns at in let h = each r.0 columns r.1 in row_context merge.table.now r.0 columns h.0 h.1;
    sets = λ n o at row.
        let same : n ≡ o = same_some n o (sym (own n (let l = slice_get_within merge.originals.items n o at in omega arith)) ∙ at) in
        subst (λ k. HasSet merge.context_sets (index k)) (sym same) (own_sets.has (index o) ((keys (index o)).1 row));
    start = start;
    first = λ n l. own n (omega (arith, l, before));
  }

-- ---- other states
pub states_advance : (old : Merge) (states : Vec (State Bits) Global) → IsMerging old → length states.items ≡ length old.states.items → ((exact : Bool) (handed : List (State Bits)) → AreCopies exact handed old.originals.items old.states.items → AreCopies exact handed old.originals.items states.items) →
    ((n m : ℕ) → slice_get old.originals.items m ≡ Some m → HasEdge states.items n m → HasEdge old.states.items n m) → Advances old (record old { states = states })
states_advance old states ready counted copies led = record {
  ready = record {
    handed = ready.handed;
    copies = copies false ready.handed ready.copies;
    visited = let v = ready.visited in omega arith;
    rows = ready.rows;
    closed = ready.closed;
    apart = ready.apart;
    contexts = ready.contexts;
    sets = ready.sets;
    start = ready.start;
    first = ready.first;
  };
  table = refl;
  start = refl;
  longer = omega arith;
  counted = omega arith;
  originals = λ n o e. e;
  copies = copies;
  sets = λ n m l k e. e;
  marks = λ n h. h;
  edges = λ n m l own h. led n m own h;
}

pub merging_coherent : (merge : Merge) → IsMerging merge → AreCoherent merge.states.items
merging_coherent merge ready = copies_coherent false ready.handed merge.originals.items merge.states.items ready.copies

-- ---- a copy that is apart
pub apart_copy : (merge : Merge) (ready : IsMerging merge) (state copy successor : StateIndex) (original : ℕ) → (w : HasOriginalRow merge state) → slice_get merge.originals.items state.0 ≡ Some original → OriginalLeadsTo merge state successor → IsRow merge.table.now successor (context_of merge.context_sets copy) → MeetInUnion (context_of merge.context_sets state) (context_of merge.context_sets copy) → IsApart merge.table.now (index original) successor
apart_copy merge ready state copy successor original w at leads row m = record {
  successor = leads original at;
  first = m.index;
  second = m.other;
  apart = λ e. m.apart (sym e);
  bit = m.bit;
  here = (row.tokens m.index m.bit).0 m.here;
  there = elim m.there [
    | inl x ↦ (walked_context merge ready state w).tokens m.other m.bit x
    | inr y ↦ (successor, (row.tokens m.other m.bit).0 y)
  ];
}

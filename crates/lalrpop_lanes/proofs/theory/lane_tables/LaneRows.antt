-- Rows to which cells are joined one by one, and rows for states with successors.
use Rattle.std.proofs.Common.{◌≡◌, ℕ, suc, ◌<◌, ◌⊎◌, inl, inr, ⊎_elim, true, false, List, [], ◌∷◌, ◌++◌, length, refl, sym, ap, subst, ◌∙◌, arith, append_assoc}
use Rattle.std.specs.Prelude.{Contains, Option, Some, None, ◌↔◌, IsSome, is_some}
use Rattle.std.specs.declared.cmp.Ordering.{Ordering}
use Rattle.std.specs.declared.cmp.Ordering.TheVariants.{Less, Equal, Greater}
use Rattle.std.specs.Ordering.{is_eq, nat_cmp, ordering_then}
use Rattle.std.specs.Cmp.{eq_by_cmp_equiv}
use Rattle.std.specs.List.Sorted.{IsStrictlySortedBy}
use Rattle.std.specs.Map.{keys_of}
use Rattle.std.proofs.lemmas.Bool.{cases_Bool}
use Rattle.std.proofs.lemmas.List.Elements.{Contains-append_left, Contains-append_right, Contains-append_cases}
use Rattle.std.proofs.lemmas.Map.Views.{IsSome-lookup_from_Contains}
use Rattle.std.proofs.lemmas.Map.Keys.{sorted_tail, Less-from_sorted}
use Rattle.std.proofs.lemmas.List.{map-append}
use Rattle.std.specs.BTreeSet.{BTreeSet as SortedSet}
use Rattle.lalrpop_base.specs.Words.{Bits}
use Rattle.lalrpop_lanes.specs.Words.{AreDisjoint}
use Rattle.lalrpop_lanes.proofs.Types.{StateIndex}
use Rattle.lalrpop_lanes.specs.Words.{Cells, AreGathered, ThisRow, Rows, row_at, AreColumnsOf, MakesRow, JoinsRow, MeetsRow, HasCells, AreRowsOf}
use Rattle.lalrpop_lanes.specs.Words.{Successors, HasSuccessor, AddsRows, column, IsRow, RowOverlaps, HasRow}
use Rattle.lalrpop_state_graph.specs.Words.{state_cmp}
use Rattle.lalrpop_lanes.specs.declared.lane_table.context_set.ConflictIndex.{ConflictIndex}
use Rattle.lalrpop_lanes.specs.declared.lane_table.table.LaneTable.{LaneTable}
use Rattle.lalrpop_lanes.proofs.theory.lane_tables.LaneColumns.{CellsOverlap, gathered_none, gathered_past, gathered_more, gathering_overlap, row_of, row_overlaps, in_last, last_in, IsGathering}
use Rattle.lalrpop_lanes.proofs.theory.lane_tables.LaneTables.{Cell, cell_cmp, found_of, lookup_of, tied_is}
use Rattle.lalrpop_collections.proofs.theory.lists.Members.{Contains-none, contains_head, contains-cons, contains_map}
use Rattle.lalrpop_collections.proofs.theory.lists.Places.{same_some}
use Rattle.lalrpop_state_graph.proofs.theory.graphs.StateGraphs.{state_total}
use Rattle.lalrpop_collections.proofs.theory.lists.LeadingBytes.{greater_is}

-- ---- rows by state
itself_tied : (s : StateIndex) → is_eq (state_cmp s s) ≡ true
itself_tied s = (eq_by_cmp_equiv state_total).refl s

apart_not : (s q : StateIndex) → is_eq (state_cmp s q) ≡ false → s ≡ q → ⊥
apart_not s q e same = let yes : is_eq (state_cmp s q) ≡ true = subst (λ (x : StateIndex). is_eq (state_cmp s x) ≡ true) same (itself_tied s) in cc

pub rows_start : (count : ℕ) → AreRowsOf count [] []
rows_start count = record {
  each = λ state row stands. (stands.0, gathered_none (ThisRow state) row stands.1);
  has = λ state row e. cc;
  all = λ state h. absurd (Contains-none _ h.1.1);
}

module _ (count : ℕ) (done : Cells) (rows new : Rows) (state : StateIndex) (index : ConflictIndex) (tokens : Bits) (are : AreRowsOf count done rows) (j : JoinsRow count state index.index tokens rows new) (within : index.index < count) where
  old_row : (length j.before ≡ count) × AreGathered (ThisRow state) done j.before
  old_row = are.each state j.before j.was

  here : (row : List Bits) → AreColumnsOf count (row_at new state) row → (length row ≡ count) × AreGathered (ThisRow state) (done ++ ((state, index), tokens) ∷ []) row
  here row stands =
      let is : row ≡ j.after = subst (λ (o : Option (List Bits)). AreColumnsOf count o row) j.there stands in
      subst (λ (r : List Bits). (length r ≡ count) × AreGathered (ThisRow state) (done ++ ((state, index), tokens) ∷ []) r) (sym is)
      (j.joined.counted ∙ old_row.0, gathered_more (ThisRow state) done j.before old_row.1 state index tokens j.after refl (subst (λ n. index.index < n) (sym old_row.0) within) j.joined j.apart)

  each_more : (q : StateIndex) (row : List Bits) → AreColumnsOf count (row_at new q) row → (length row ≡ count) × AreGathered (ThisRow q) (done ++ ((state, index), tokens) ∷ []) row
  each_more q row stands = ⊎_elim
      (λ tied. let same : state ≡ q = tied_is state q tied in
      subst (λ (x : StateIndex). (length row ≡ count) × AreGathered (ThisRow x) (done ++ ((state, index), tokens) ∷ []) row) same
      (here row (subst (λ (x : StateIndex). AreColumnsOf count (row_at new x) row) (sym same) stands)))
      (λ apart. let was = are.each q row (subst (λ (o : Option (List Bits)). AreColumnsOf count o row) (j.others q apart) stands) in
      (was.0, gathered_past (ThisRow q) done row was.1 state index tokens (apart_not state q apart)))
      (cases_Bool (is_eq (state_cmp state q)))

  has_more : (q : StateIndex) (row : List Bits) → row_at new q ≡ Some row → HasCells (done ++ ((state, index), tokens) ∷ []) q
  has_more q row e = ⊎_elim
      (λ tied. (index.index, (tokens, subst (λ (x : StateIndex). Contains (done ++ ((state, index), tokens) ∷ []) ((x, index), tokens)) (tied_is state q tied) (last_in done ((state, index), tokens)))))
      (λ apart. let was = are.has q row (sym (j.others q apart) ∙ e) in (was.0, (was.1.0, Contains-append_left done (((state, index), tokens) ∷ []) _ was.1.1)))
      (cases_Bool (is_eq (state_cmp state q)))

  all_more : (q : StateIndex) → HasCells (done ++ ((state, index), tokens) ∷ []) q → (row : List Bits) × (row_at new q ≡ Some row)
  all_more q h = ⊎_elim
      (λ tied. (j.after, subst (λ (x : StateIndex). row_at new x ≡ Some j.after) (tied_is state q tied) j.there))
      (λ apart. ⊎_elim
      (λ was. let r = are.all q (h.0, (h.1.0, was)) in (r.0, j.others q apart ∙ r.1))
      (λ same. absurd (apart_not state q apart (ap (λ (x : Cell × Bits). x.0.0) same)))
      (in_last done ((state, index), tokens) _ h.1.1))
      (cases_Bool (is_eq (state_cmp state q)))

  pub rows_more : AreRowsOf count (done ++ ((state, index), tokens) ∷ []) new
  rows_more = record { each = each_more; has = has_more; all = all_more }

-- the rows of the cells before those that are left
pub record AreTaken (count : ℕ) (left all : Cells) (rows : Rows) : Type 0 where
  pub done : Cells
  pub whole : done ++ left ≡ all
  pub are : AreRowsOf count done rows

pub taken_start : (count : ℕ) (all : Cells) → AreTaken count all all []
taken_start count all = record { done = []; whole = refl; are = rows_start count }

pub taken_counted : (count : ℕ) (left all : Cells) (rows : Rows) → AreTaken count left all rows → (state : StateIndex) (row : List Bits) → row_at rows state ≡ Some row → length row ≡ count
taken_counted count left all rows t state row e = (t.are.each state row (subst (λ (o : Option (List Bits)). AreColumnsOf count o row) (sym e) refl)).0

module _ (count : ℕ) (before left all : Cells) (rows : Rows) (t : AreTaken count before all rows) (state : StateIndex) (index : ConflictIndex) (tokens : Bits) (first : before ≡ ((state, index), tokens) ∷ left) where
  more_whole : (t.done ++ ((state, index), tokens) ∷ []) ++ left ≡ all
  more_whole = append_assoc t.done (((state, index), tokens) ∷ []) left ∙ ap (λ es. t.done ++ es) (sym first) ∙ t.whole

  pub taken_in : Contains all ((state, index), tokens)
  taken_in = subst (λ (es : Cells). Contains es ((state, index), tokens)) more_whole (Contains-append_left (t.done ++ ((state, index), tokens) ∷ []) left _ (last_in t.done ((state, index), tokens)))

  pub taken_more : (new : Rows) → index.index < count → JoinsRow count state index.index tokens rows new → AreTaken count left all new
  taken_more new within j = record { done = t.done ++ ((state, index), tokens) ∷ []; whole = more_whole; are = rows_more count t.done rows new state index tokens t.are j within }

  pub taken_overlaps : (table : LaneTable) → table.lookaheads.entries ≡ all → MeetsRow count state index.index tokens rows → RowOverlaps table state
  taken_overlaps table e m =
      let was = t.are.each state m.row m.was in
      let g : IsGathering (ThisRow state) before all count m.row = record { done = t.done; whole = t.whole; gathered = was.1; counted = was.0 } in
      row_overlaps table state (subst (λ (es : Cells). CellsOverlap (ThisRow state) es) (sym e) (gathering_overlap (ThisRow state) before left all count m.row g state index tokens first refl m.meets))

-- ---- states whose cells have all been taken
sorted_rest : {K : Type 0} (cmp : K → K → Ordering) (xs ys : List K) → IsStrictlySortedBy cmp (xs ++ ys) → IsStrictlySortedBy cmp ys
sorted_rest cmp [] ys s = s
sorted_rest cmp (x ∷ xs) ys s = sorted_rest cmp xs ys (sorted_tail cmp x (xs ++ ys) s)

head_less : {K : Type 0} (cmp : K → K → Ordering) (x : K) (xs : List K) (y : K) → IsStrictlySortedBy cmp (x ∷ xs) → Contains xs y → cmp x y ≡ Less
head_less cmp x xs y s c = ap (λ z. cmp x z) (sym c.2) ∙ Less-from_sorted cmp (x ∷ xs) 0 (suc c.0) y s (omega arith) (omega (arith, c.1))

not_smaller : (o p : Ordering) → ordering_then o p ≡ Less → o ≡ Greater → ⊥
not_smaller Less p e f = cc
not_smaller Equal p e f = cc
not_smaller Greater p e f = cc

module _ (done left all : Cells) (state : StateIndex) (index : ConflictIndex) (tokens : Bits) (whole : done ++ ((state, index), tokens) ∷ left ≡ all) (rises : IsStrictlySortedBy cell_cmp (keys_of all)) where
  tail_rises : IsStrictlySortedBy cell_cmp ((state, index) ∷ keys_of left)
  tail_rises = sorted_rest cell_cmp (keys_of done) ((state, index) ∷ keys_of left) (subst (λ (ks : List Cell). IsStrictlySortedBy cell_cmp ks) (ap (λ (es : Cells). keys_of es) (sym whole) ∙ map-append (λ (e : Cell × Bits). e.0) done (((state, index), tokens) ∷ left)) rises)

  -- a cell of a smaller state was taken
  pub taken_before : (smaller : StateIndex) (k : ℕ) (set : Bits) → smaller.0 < state.0 → Contains all ((smaller, column k), set) → Contains done ((smaller, column k), set)
  taken_before smaller k set l c = ⊎_elim
      (λ was. was)
      (λ later. ⊎_elim
      (λ same. let e : state.0 ≡ smaller.0 = ap (λ (x : Cell × Bits). x.0.0.0) same in absurd (omega (arith, e, l)))
      (λ behind. absurd (not_smaller (state_cmp state smaller) (nat_cmp index.index k)
      (head_less cell_cmp (state, index) (keys_of left) (smaller, column k) tail_rises (contains_map (λ (x : Cell × Bits). x.0) left ((smaller, column k), set) behind))
      (greater_is state.0 smaller.0 l)))
      (contains-cons ((state, index), tokens) left ((smaller, column k), set) later))
      (Contains-append_cases done (((state, index), tokens) ∷ left) ((smaller, column k), set) (subst (λ (es : Cells). Contains es ((smaller, column k), set)) (sym whole) c))

pub none_smaller : (count : ℕ) (before left all : Cells) (rows : Rows) (t : AreTaken count before all rows) (state : StateIndex) (index : ConflictIndex) (tokens : Bits) → before ≡ ((state, index), tokens) ∷ left → IsStrictlySortedBy cell_cmp (keys_of all) →
    (table : LaneTable) → table.lookaheads.entries ≡ all → (smaller : StateIndex) → smaller.0 < state.0 → ¬ RowOverlaps table smaller
none_smaller count before left all rows t state index tokens first rises table e smaller l o =
    let whole : t.done ++ ((state, index), tokens) ∷ left ≡ all = ap (λ es. t.done ++ es) (sym first) ∙ t.whole in
    let at_first : Contains t.done ((smaller, column o.first), o.here.0) = taken_before t.done left all state index tokens whole rises smaller o.first o.here.0 l (subst (λ (es : Cells). Contains es ((smaller, column o.first), o.here.0)) e o.here.1) in
    let at_second : Contains t.done ((smaller, column o.second), o.there.0) = taken_before t.done left all state index tokens whole rises smaller o.second o.there.0 l (subst (λ (es : Cells). Contains es ((smaller, column o.second), o.there.0)) e o.there.1) in
    let r = t.are.all smaller (o.first, (o.here.0, at_first)) in
    let g = (t.are.each smaller r.0 (subst (λ (p : Option (List Bits)). AreColumnsOf count p r.0) (sym r.1) refl)).1 in
    o.apart (g.disjoint o.first o.second o.bit ((g.tokens o.first o.bit).1 (smaller, refl, (o.here.0, at_first, o.here.2))) ((g.tokens o.second o.bit).1 (smaller, refl, (o.there.0, at_second, o.there.2))))

-- ---- rows for states with successors
pub next_more : (done : Successors) (e : StateIndex × SortedSet StateIndex) (left right : StateIndex) → HasSuccessor done left right → HasSuccessor (done ++ e ∷ []) left right
next_more done e left right h = (h.0, Contains-append_left done (e ∷ []) _ h.1, h.2)

pub next_last : (done : Successors) (e : StateIndex × SortedSet StateIndex) (left right : StateIndex) → HasSuccessor (done ++ e ∷ []) left right → HasSuccessor done left right ⊎ ((e.0 ≡ left) × Contains e.1.keys right)
next_last done e left right h = ⊎_elim
    (λ was. inl (h.0, was, h.2))
    (λ later. ⊎_elim
    (λ same. inr (ap (λ (x : StateIndex × SortedSet StateIndex). x.0) same, subst (λ (x : StateIndex × SortedSet StateIndex). Contains x.1.keys right) (sym same) h.2))
    (λ n. absurd (Contains-none _ n))
    (contains-cons e [] (left, h.0) later))
    (Contains-append_cases done (e ∷ []) (left, h.0) h.1)

-- the state has no successors
pub adds_past : (count : ℕ) (done : Successors) (old new : Rows) (state : StateIndex) (set : SortedSet StateIndex) → AddsRows count done old new → set.keys ≡ [] → AddsRows count (done ++ (state, set) ∷ []) old new
adds_past count done old new state set a none = record {
  kept = a.kept;
  from = λ q row e. let f = a.from q row e in (f.0, ⊎_elim (λ was. inl was) (λ n. inr (n.0, next_more done (state, set) q n.0 n.1)) f.1);
  all = λ left right h. ⊎_elim
      (λ was. a.all left right was)
      (λ same. absurd (Contains-none right (subst (λ (ks : List StateIndex). Contains ks right) none same.1)))
      (next_last done (state, set) left right h);
}

-- the state has a successor
pub adds_more : (count : ℕ) (done : Successors) (old rows new : Rows) (state : StateIndex) (set : SortedSet StateIndex) (right : StateIndex) → AddsRows count done old rows → Contains set.keys right → MakesRow count state rows new → AddsRows count (done ++ (state, set) ∷ []) old new
adds_more count done old rows new state set next a there m = record {
  kept = λ q row e. let was = a.kept q row e in ⊎_elim
      (λ tied. let same : state ≡ q = tied_is state q tied in
      let is : m.row ≡ row = subst (λ (o : Option (List Bits)). AreColumnsOf count o m.row) (ap (row_at rows) same ∙ was) m.was in
      ap (row_at new) (sym same) ∙ m.there ∙ ap Some is)
      (λ apart. m.others q apart ∙ was)
      (cases_Bool (is_eq (state_cmp state q)));
  from = λ q row e. ⊎_elim
      (λ tied. let same : state ≡ q = tied_is state q tied in
      let is : row ≡ m.row = same_some row m.row (sym e ∙ ap (row_at new) (sym same) ∙ m.there) in
      subst (λ (x : StateIndex). AreColumnsOf count (row_at old x) row × ((row_at old x ≡ Some row) ⊎ ((right : StateIndex) × HasSuccessor (done ++ (state, set) ∷ []) x right))) same
      (subst (λ (r : List Bits). AreColumnsOf count (row_at old state) r × ((row_at old state ≡ Some r) ⊎ ((right : StateIndex) × HasSuccessor (done ++ (state, set) ∷ []) state right))) (sym is)
      (made (row_at rows state) refl, inr (next, (set, Contains-append_right done ((state, set) ∷ []) _ (contains_head (state, set) []), there)))))
      (λ apart. let f = a.from q row (sym (m.others q apart) ∙ e) in (f.0, ⊎_elim (λ was. inl was) (λ n. inr (n.0, next_more done (state, set) q n.0 n.1)) f.1))
      (cases_Bool (is_eq (state_cmp state q)));
  all = λ left right h. ⊎_elim
      (λ tied. (m.row, ap (row_at new) (sym (tied_is state left tied)) ∙ m.there))
      (λ apart. ⊎_elim
      (λ was. let r = a.all left right was in (r.0, m.others left apart ∙ r.1))
      (λ same. absurd (apart_not state left apart same.0))
      (next_last done (state, set) left right h))
      (cases_Bool (is_eq (state_cmp state left)));
}
  where
    none_before : (o : Option (List Bits)) → row_at old state ≡ o → row_at rows state ≡ None → AreColumnsOf count None m.row → AreColumnsOf count o m.row
    none_before None e f s = s
    none_before (Some row) e f s = let g = a.kept state row e in cc

    made : (o : Option (List Bits)) → row_at rows state ≡ o → AreColumnsOf count (row_at old state) m.row
    made None e = none_before (row_at old state) refl e (subst (λ (o : Option (List Bits)). AreColumnsOf count o m.row) e m.was)
    made (Some row) e = let is : m.row ≡ row = subst (λ (o : Option (List Bits)). AreColumnsOf count o m.row) e m.was in subst (λ (r : List Bits). AreColumnsOf count (row_at old state) r) (sym is) (a.from state row e).0

-- the rows of the successors before those that are left
pub record AreAdding (count : ℕ) (left all : Successors) (old new : Rows) : Type 0 where
  pub done : Successors
  pub whole : done ++ left ≡ all
  pub adds : AddsRows count done old new

module _ (count : ℕ) (before left all : Successors) (old rows : Rows) (a : AreAdding count before all old rows) (state : StateIndex) (set : SortedSet StateIndex) (first : before ≡ (state, set) ∷ left) where
  adding_whole : (a.done ++ (state, set) ∷ []) ++ left ≡ all
  adding_whole = append_assoc a.done ((state, set) ∷ []) left ∙ ap (λ es. a.done ++ es) (sym first) ∙ a.whole

  pub adding_past : set.keys ≡ [] → AreAdding count left all old rows
  adding_past none = record { done = a.done ++ (state, set) ∷ []; whole = adding_whole; adds = adds_past count a.done old rows state set a.adds none }

  some_key : (ks : List StateIndex) → (ks ≡ [] → ⊥) → (right : StateIndex) × Contains ks right
  some_key [] some = absurd (some refl)
  some_key (k ∷ ks) some = (k, contains_head k ks)

  pub adding_more : (new : Rows) → (set.keys ≡ [] → ⊥) → MakesRow count state rows new → AreAdding count left all old new
  adding_more new some m = let k = some_key set.keys some in record { done = a.done ++ (state, set) ∷ []; whole = adding_whole; adds = adds_more count a.done old rows new state set k.0 a.adds k.1 m }

-- ---- the rows of a table
module _ (table : LaneTable) (rows new : Rows) (are : AreRowsOf table.conflicts table.lookaheads.entries rows) (adds : AddsRows table.conflicts table.successors rows new) where
  pub row_is : (state : StateIndex) (row : List Bits) → IsStrictlySortedBy state_cmp (keys_of new) → Contains new (state, row) → IsRow table state row × AreDisjoint row
  row_is state row rises c =
      let r = are.each state row (adds.from state row (lookup_of new state row rises c)).0 in
      (row_of table state row r.0 r.1, r.1.disjoint)

  found_key : (q : StateIndex) (o : Option (List Bits)) → row_at new q ≡ o → IsSome o → HasRow table q
  found_key q None e s = cc
  found_key q (Some row) e s = ⊎_elim (λ was. inl (are.has q row was)) (λ n. inr n) (adds.from q row e).1

  pub has_row : (q : StateIndex) → Contains (keys_of new) q ↔ HasRow table q
  has_row q = (
    λ c. found_key q (row_at new q) refl (IsSome-lookup_from_Contains (eq_by_cmp_equiv state_total) q new c),
    λ h. ⊎_elim
        (λ cell. let r = are.all q cell in contains_map (λ (x : StateIndex × List Bits). x.0) new (q, r.0) (found_of new q r.0 (adds.kept q r.0 r.1)))
        (λ next. let r = adds.all q next.0 next.1 in contains_map (λ (x : StateIndex × List Bits). x.0) new (q, r.0) (found_of new q r.0 r.1))
        h,
  )

-- a state that has a row keeps it
made_at : (count : ℕ) (state : StateIndex) (rows : Rows) (o : Option (List Bits)) → row_at rows state ≡ o → is_some o ≡ true → MakesRow count state rows rows
made_at count state rows None e h = cc
made_at count state rows (Some row) e h = record { row = row; there = e; was = subst (λ (o : Option (List Bits)). AreColumnsOf count o row) (sym e) refl; others = λ q apart. refl }

pub made_already : (count : ℕ) (state : StateIndex) (rows : Rows) → is_some (row_at rows state) ≡ true → MakesRow count state rows rows
made_already count state rows h = made_at count state rows (row_at rows state) refl h

pub some_keys : {X : Type 0} (xs : List X) → (length xs ≡ 0 → ⊥) → xs ≡ [] → ⊥
some_keys xs some e = some (ap (λ ys. length ys) e)

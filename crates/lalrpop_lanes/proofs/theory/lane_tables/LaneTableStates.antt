-- The results of loops over a lane table, for its states.
use Rattle.std.proofs.Common.{◌≡◌, ℕ, ◌<◌, ◌⊎◌, inl, inr, ⊎_elim, Bool, true, false, not, length, arith, List, [], ◌∷◌, ◌++◌, refl, sym, ap, subst}
use Rattle.std.specs.Prelude.{Contains, ◌↔◌}
use Rattle.std.specs.BTreeSet.{BTreeSet as SortedSet, insert_key}
use Rattle.std.proofs.lemmas.List.Elements.{Contains-append_left, Contains-append_right, Contains-push}
use Rattle.lalrpop_base.specs.Words.{Bits}
use Rattle.lalrpop_lanes.proofs.Types.{StateIndex}
use Rattle.lalrpop_lanes.specs.Words.{Cells, HasCells, Successors, HasSuccessor, AreReached, HasCellsBelow, IsClosedEdge, column, HasRow, IsBeachhead}
use Rattle.lalrpop_state_graph.specs.Words.{AddsStates}
use Rattle.lalrpop_lanes.specs.Words.{IsClosed, IsSuccessor}
use Rattle.lalrpop_state_graph.specs.Words.{state_cmp}
use Rattle.lalrpop_lanes.specs.declared.lane_table.table.LaneTable.{LaneTable}
use Rattle.lalrpop_lanes.proofs.theory.lane_tables.LaneColumns.{in_last, last_in}
use Rattle.lalrpop_lanes.proofs.theory.lane_tables.LaneRows.{next_more, next_last}
use Rattle.lalrpop_lanes.proofs.theory.lane_tables.LaneTables.{Cell, key_added}
use Rattle.lalrpop_collections.proofs.theory.lists.Members.{contains_head}
use Rattle.lalrpop_collections.proofs.theory.lists.EachLemmas.{either}

-- ---- states put into a set
abbrev pub AddedSoFar : List StateIndex → List StateIndex → List StateIndex → Type 0
AddedSoFar old new done = AddsStates done old new

pub added_more : (old mid new : List StateIndex) (key : StateIndex) → new ≡ insert_key state_cmp mid key → (done : List StateIndex) → AddedSoFar old mid done → AddedSoFar old new (done ++ key ∷ [])
added_more old mid new key e done a r = (
  λ c. ⊎_elim
      (λ was. ⊎_elim (λ o. inl o) (λ d. inr (Contains-append_left done (key ∷ []) r d)) ((a r).0 was))
      (λ same. inr (subst (λ (x : StateIndex). Contains (done ++ key ∷ []) x) (sym same) (Contains-push done key)))
      ((key_added mid new key e r).0 c),
  λ h. (key_added mid new key e r).1 (⊎_elim
      (λ o. inl ((a r).1 (inl o)))
      (λ d. ⊎_elim (λ was. inl ((a r).1 (inr was))) (λ same. inr (sym same)) (either done key r d))
      h),
)

-- ---- the successors of all states
abbrev pub ReachedSoFar : List StateIndex → Successors → Type 0
ReachedSoFar keys done = (right : StateIndex) → Contains keys right ↔ ((left : StateIndex) × HasSuccessor done left right)

pub reached_more : (keys new : List StateIndex) (state : StateIndex) (set : SortedSet StateIndex) → AddsStates set.keys keys new → (done : Successors) → ReachedSoFar keys done → ReachedSoFar new (done ++ (state, set) ∷ [])
reached_more keys new state set a done r right = (
  λ c. ⊎_elim
      (λ was. let h = (r right).0 was in (h.0, next_more done (state, set) h.0 right h.1))
      (λ now. (state, (set, Contains-append_right done ((state, set) ∷ []) _ (contains_head (state, set) []), now)))
      ((a right).0 c),
  λ h. (a right).1 (⊎_elim (λ was. inl ((r right).1 (h.0, was))) (λ now. inr now.1) (next_last done (state, set) h.0 right h.1)),
)

-- ---- states with cells that are not reached
abbrev pub BeachSoFar : List StateIndex → List StateIndex → Cells → Type 0
BeachSoFar reached keys done = (s : StateIndex) → Contains keys s ↔ (HasCells done s × ¬ Contains reached s)

cells_more : (done : Cells) (e : Cell × Bits) (s : StateIndex) → HasCells done s → HasCells (done ++ e ∷ []) s
cells_more done e s h = (h.0, (h.1.0, Contains-append_left done (e ∷ []) _ h.1.1))

cells_last : (done : Cells) (e : Cell × Bits) (s : StateIndex) → HasCells (done ++ e ∷ []) s → HasCells done s ⊎ (e.0.0 ≡ s)
cells_last done e s h = ⊎_elim (λ was. inl (h.0, (h.1.0, was))) (λ same. inr (ap (λ (x : Cell × Bits). x.0.0) same)) (in_last done e ((s, column h.0), h.1.0) h.1.1)

pub beach_more : (reached keys new : List StateIndex) (cell : Cell) (set : Bits) → ¬ Contains reached cell.0 → new ≡ insert_key state_cmp keys cell.0 → (done : Cells) → BeachSoFar reached keys done → BeachSoFar reached new (done ++ (cell, set) ∷ [])
beach_more reached keys new cell set out e done b s = (
  λ c. ⊎_elim
      (λ was. let h = (b s).0 was in (cells_more done (cell, set) s h.0, h.1))
      (λ same. (
        subst (λ (x : StateIndex). HasCells (done ++ (cell, set) ∷ []) x) (sym same) (cell.1.index, (set, last_in done (cell, set))),
        subst (λ (x : StateIndex). ¬ Contains reached x) (sym same) out,
      ))
      ((key_added keys new cell.0 e s).0 c),
  λ h. (key_added keys new cell.0 e s).1 (⊎_elim (λ was. inl ((b s).1 (was, h.1))) (λ same. inr (sym same)) (cells_last done (cell, set) s h.0)),
)

pub beach_past : (reached keys : List StateIndex) (cell : Cell) (set : Bits) → Contains reached cell.0 → (done : Cells) → BeachSoFar reached keys done → BeachSoFar reached keys (done ++ (cell, set) ∷ [])
beach_past reached keys cell set there done b s = (
  λ c. let h = (b s).0 c in (cells_more done (cell, set) s h.0, h.1),
  λ h. ⊎_elim (λ was. (b s).1 (was, h.1)) (λ same. absurd (h.1 (subst (λ (x : StateIndex). Contains reached x) same there))) (cells_last done (cell, set) s h.0),
)

pub beachheads : (table : LaneTable) (reached keys : List StateIndex) → AreReached table reached → BeachSoFar reached keys table.lookaheads.entries → (s : StateIndex) → Contains keys s ↔ IsBeachhead table s
beachheads table reached keys r b s = (
  λ c. let h = (b s).0 c in (h.0, λ left next. h.1 ((r s).1 (left, next))),
  λ h. (b s).1 (h.0, λ there. let n = (r s).0 there in h.1 n.0 n.1),
)

-- ---- each entry passed is good
abbrev pub EachSoFar : {X : Type 0} → (X → Type 0) → List X → Type 0
EachSoFar {X} Good done = (x : X) → Contains done x → Good x

pub each_more : {X : Type 0} (Good : X → Type 0) (e : X) → Good e → (done : List X) → EachSoFar Good done → EachSoFar Good (done ++ e ∷ [])
each_more Good e good done each x c = ⊎_elim (λ was. each x was) (λ same. subst Good same good) (either done e x c)

-- ---- conditions on the entries of a table
-- the cell's state has a number below the count
abbrev pub IsBelow : ℕ → Cell × Bits → Type 0
IsBelow count e = e.0.0.0 < count

-- the edges of the entry are closed
abbrev pub HasClosed : ℕ → LaneTable → StateIndex × SortedSet StateIndex → Type 0
HasClosed count table e = (right : StateIndex) → Contains e.1.keys right → IsClosedEdge count table e.0 right

-- the cell is of another state
abbrev pub IsOther : StateIndex → Cell × Bits → Type 0
IsOther state e = e.0.0 ≡ state → ⊥

pub no_cells : (state : StateIndex) (cells : Cells) → EachSoFar (IsOther state) cells → ¬ HasCells cells state
no_cells state cells each h = each ((state, column h.0), h.1.0) h.1.1 refl

pub cell_there : (cells : Cells) (cell : Cell) (set : Bits) (state : StateIndex) → cell.0 ≡ state → Contains cells (cell, set) → HasCells cells state
cell_there cells cell set state same c = (cell.1.index, (set, subst (λ (x : StateIndex). Contains cells ((x, cell.1), set)) same c))

pub below_all : (count : ℕ) (table : LaneTable) → EachSoFar (IsBelow count) table.lookaheads.entries → HasCellsBelow count table
below_all count table each row k h = each ((row, column k), h.0) h.1

pub below_one : (count : ℕ) (table : LaneTable) (cell : Cell) (set : Bits) → Contains table.lookaheads.entries (cell, set) → HasCellsBelow count table → cell.0.0 < count
below_one count table cell set c below = below cell.0 cell.1.index (set, c)

pub closed_all : (count : ℕ) (table : LaneTable) → EachSoFar (HasClosed count table) table.successors → (left right : StateIndex) → IsSuccessor table left right → IsClosedEdge count table left right
closed_all count table each left right h = each (left, h.0) h.1 right h.2

pub closed_table : (count : ℕ) (table : LaneTable) → HasCellsBelow count table → ((left right : StateIndex) → IsSuccessor table left right → IsClosedEdge count table left right) → IsClosed count table
closed_table count table below edges = record {
  cells = below;
  numbers = λ left right h. let e = edges left right h in (e.0, e.1);
  rows = λ left right h. (edges left right h).2;
}

pub closed_edges : (count : ℕ) (table : LaneTable) → IsClosed count table → (left right : StateIndex) → IsSuccessor table left right → IsClosedEdge count table left right
closed_edges count table closed left right h = let n = closed.numbers left right h in (n.0, n.1, closed.rows left right h)

-- ---- a row by a cell or a successor
not_yes : (b : Bool) → b ≡ false → b ≡ true → ⊥
not_yes true e h = cc
not_yes false e h = cc

pub row_by_none : (table : LaneTable) (state : StateIndex) (cell : Bool) → ((cell ≡ true) ↔ HasCells table.lookaheads.entries state) → cell ≡ false → ((right : StateIndex) → ¬ IsSuccessor table state right) → (false ≡ true) ↔ HasRow table state
row_by_none table state cell is out none = (λ e. cc, λ h. absurd (⊎_elim (λ c. not_yes cell out (is.1 c)) (λ n. none n.0 n.1) h))

some_key : (ks : List StateIndex) → (length ks ≡ 0 → ⊥) → (right : StateIndex) × Contains ks right
some_key [] some = absurd (some refl)
some_key (k ∷ ks) some = (k, contains_head k ks)

without : (ks : List StateIndex) → length ks ≡ 0 → (right : StateIndex) → Contains ks right → ⊥
without ks e right c = omega (arith, c.1, e)

pub row_by_next : (table : LaneTable) (state : StateIndex) (set : SortedSet StateIndex) (empty cell : Bool) → ((cell ≡ true) ↔ HasCells table.lookaheads.entries state) → cell ≡ false →
    ((right : StateIndex) → Contains set.keys right ↔ IsSuccessor table state right) → ((empty ≡ true) ↔ (length set.keys ≡ 0)) → (not empty ≡ true) ↔ HasRow table state
row_by_next table state set true cell is out next e = (λ h. cc, λ h. absurd (⊎_elim (λ c. not_yes cell out (is.1 c)) (λ n. without set.keys (e.0 refl) n.0 ((next n.0).1 n.1)) h))
row_by_next table state set false cell is out next e = (λ h. let k = some_key set.keys (λ z. not_yes false refl (e.1 z)) in inr (k.0, (next k.0).0 k.1), λ h. refl)

-- Columns to which the cells of a lane table are joined, one by one.
use Rattle.std.proofs.Common.{◌≡◌, ℕ, ◌<◌, ◌⊎◌, inl, inr, ⊎_elim, true, List, [], ◌∷◌, ◌++◌, length, refl, sym, ap, subst, ◌∙◌, append_assoc, append-nil}
use Rattle.std.specs.Prelude.{Contains, slice_get, Some}
use Rattle.std.proofs.lemmas.List.Elements.{Contains-append_left, Contains-append_cases, Contains-push}
use Rattle.lalrpop_base.specs.Words.{Bits, has, no_bits, has-no_bits}
use Rattle.lalrpop_lanes.specs.Words.{HasAt, MeetsOther, IsJoinedIn}
use Rattle.lalrpop_lanes.proofs.Types.{StateIndex}
use Rattle.lalrpop_lanes.specs.Words.{Cells, HasIn, AreGathered, ThisRow, column, AreColumns, ColumnsOverlap, IsRow, RowOverlaps}
use Rattle.lalrpop_lanes.specs.declared.lane_table.context_set.ConflictIndex.{ConflictIndex}
use Rattle.lalrpop_lanes.specs.declared.lane_table.table.LaneTable.{LaneTable}
use Rattle.lalrpop_lanes.proofs.theory.lanes.Contexts.{had_or_joined, still_has, has_joined, still_disjoint}
use Rattle.lalrpop_lanes.proofs.theory.lane_tables.LaneTables.{Cell}
use Rattle.lalrpop_collections.proofs.theory.lists.Members.{contains-cons, Contains-none}

-- two columns share a token in the rows
pub record CellsOverlap (P : StateIndex → Type 0) (cells : Cells) : Type 0 where
  pub first : ℕ
  pub second : ℕ
  pub apart : first ≡ second → ⊥
  pub bit : ℕ
  pub here : HasIn P cells first bit
  pub there : HasIn P cells second bit

has_nothing : (columns : List Bits) → ((k : ℕ) (set : Bits) → slice_get columns k ≡ Some set → set ≡ no_bits) → (k bit : ℕ) → HasAt columns k bit → ⊥
has_nothing columns empty k bit h = let e : has no_bits bit ≡ true = sym (ap (λ s. has s bit) (empty k h.0 h.1)) ∙ h.2 in cc (has-no_bits bit)

pub gathered_none : (P : StateIndex → Type 0) (columns : List Bits) → ((k : ℕ) (set : Bits) → slice_get columns k ≡ Some set → set ≡ no_bits) → AreGathered P [] columns
gathered_none P columns empty = record {
  tokens = λ k bit. (λ h. absurd (has_nothing columns empty k bit h), λ h. absurd (Contains-none _ h.2.1));
  disjoint = λ i j bit h. absurd (has_nothing columns empty i bit h);
}

-- one cell more
pub in_more : (P : StateIndex → Type 0) (cells : Cells) (e : Cell × Bits) (k bit : ℕ) → HasIn P cells k bit → HasIn P (cells ++ e ∷ []) k bit
in_more P cells e k bit h = (h.0, h.1, (h.2.0, Contains-append_left cells (e ∷ []) _ h.2.1, h.2.2))

pub last_in : (cells : Cells) (e : Cell × Bits) → Contains (cells ++ e ∷ []) e
last_in cells e = Contains-push cells e

pub in_last : (cells : Cells) (e f : Cell × Bits) → Contains (cells ++ e ∷ []) f → Contains cells f ⊎ (e ≡ f)
in_last cells e f c = ⊎_elim (λ a. inl a) (λ b. ⊎_elim (λ s. inr s) (λ n. absurd (Contains-none f n)) (contains-cons e [] f b)) (Contains-append_cases cells (e ∷ []) f c)

module _ (P : StateIndex → Type 0) (cells : Cells) (columns : List Bits) (g : AreGathered P cells columns) (row : StateIndex) (index : ConflictIndex) (set : Bits) where
  abbrev Last : Cell × Bits
  Last = ((row, index), set)

  -- the row is none of those that are gathered
  pub gathered_past : (P row → ⊥) → AreGathered P (cells ++ Last ∷ []) columns
  gathered_past out = record {
    tokens = λ k bit. (
      λ h. in_more P cells Last k bit ((g.tokens k bit).0 h),
      λ h. ⊎_elim
          (λ was. (g.tokens k bit).1 (h.0, h.1, (h.2.0, was, h.2.2)))
          (λ same. absurd (out (subst P (sym (ap (λ (x : Cell × Bits). x.0.0) same)) h.1)))
          (in_last cells Last _ h.2.1),
    );
    disjoint = g.disjoint;
  }

  pub meets_overlap : P row → MeetsOther columns index.index set → CellsOverlap P (cells ++ Last ∷ [])
  meets_overlap inside m = record {
    first = m.other;
    second = index.index;
    apart = m.apart;
    bit = m.bit;
    here = in_more P cells Last m.other m.bit ((g.tokens m.other m.bit).0 m.there);
    there = (row, inside, (set, last_in cells Last, m.shared));
  }

  module _ (new : List Bits) (p : P row) (within : index.index < length columns) (j : IsJoinedIn index.index set columns new) (apart : ¬ MeetsOther columns index.index set) where
    pub gathered_more : AreGathered P (cells ++ Last ∷ []) new
    gathered_more = record {
      tokens = λ k bit. (
        λ h. ⊎_elim
            (λ was. in_more P cells Last k bit ((g.tokens k bit).0 was))
            (λ added. (row, p, (set, subst (λ (n : ℕ). Contains (cells ++ Last ∷ []) ((row, column n), set)) (sym added.0) (last_in cells Last), added.1)))
            (had_or_joined index.index set columns new j k bit h),
        λ h. ⊎_elim
            (λ was. still_has index.index set columns new j k bit ((g.tokens k bit).1 (h.0, h.1, (h.2.0, was, h.2.2))))
            (λ same. subst (λ n. HasAt new n bit) (ap (λ (x : Cell × Bits). x.0.1.index) same)
            (has_joined index.index set columns new j bit within (ap (λ (x : Cell × Bits). has x.1 bit) same ∙ h.2.2)))
            (in_last cells Last _ h.2.1),
      );
      disjoint = still_disjoint index.index set columns new j apart g.disjoint;
    }

-- the columns have the tokens of the cells before those that are left
pub record IsGathering (P : StateIndex → Type 0) (left all : Cells) (count : ℕ) (columns : List Bits) : Type 0 where
  pub done : Cells
  pub whole : done ++ left ≡ all
  pub gathered : AreGathered P done columns
  pub counted : length columns ≡ count

pub gathering_start : (P : StateIndex → Type 0) (all : Cells) (count : ℕ) (columns : List Bits) → length columns ≡ count → ((k : ℕ) (set : Bits) → slice_get columns k ≡ Some set → set ≡ no_bits) → IsGathering P all all count columns
gathering_start P all count columns counted empty = record { done = []; whole = refl; gathered = gathered_none P columns empty; counted = counted }

module _ (P : StateIndex → Type 0) (before left all : Cells) (count : ℕ) (columns : List Bits) (g : IsGathering P before all count columns) (row : StateIndex) (index : ConflictIndex) (set : Bits) (first : before ≡ ((row, index), set) ∷ left) where
  more_done : (g.done ++ ((row, index), set) ∷ []) ++ left ≡ all
  more_done = append_assoc g.done (((row, index), set) ∷ []) left ∙ ap (λ es. g.done ++ es) (sym first) ∙ g.whole

  pub gathering_past : (P row → ⊥) → IsGathering P left all count columns
  gathering_past out = record { done = g.done ++ ((row, index), set) ∷ []; whole = more_done; gathered = gathered_past P g.done columns g.gathered row index set out; counted = g.counted }

  pub gathering_more : (new : List Bits) → P row → index.index < count → IsJoinedIn index.index set columns new → ¬ MeetsOther columns index.index set → IsGathering P left all count new
  gathering_more new p within j apart = record {
    done = g.done ++ ((row, index), set) ∷ [];
    whole = more_done;
    gathered = gathered_more P g.done columns g.gathered row index set new p (subst (λ n. index.index < n) (sym g.counted) within) j apart;
    counted = j.counted ∙ g.counted;
  }

  in_all : (k bit : ℕ) → HasIn P (g.done ++ ((row, index), set) ∷ []) k bit → HasIn P all k bit
  in_all k bit h = (h.0, h.1, (h.2.0, subst (λ (es : Cells). Contains es ((h.0, column k), h.2.0)) more_done (Contains-append_left (g.done ++ ((row, index), set) ∷ []) left _ h.2.1), h.2.2))

  pub gathering_overlap : P row → MeetsOther columns index.index set → CellsOverlap P all
  gathering_overlap p m =
      let o = meets_overlap P g.done columns g.gathered row index set p m in
      record { first = o.first; second = o.second; apart = o.apart; bit = o.bit; here = in_all o.first o.bit o.here; there = in_all o.second o.bit o.there }

  pub stands_in : Contains all ((row, index), set)
  stands_in = subst (λ (es : Cells). Contains es ((row, index), set)) more_done (Contains-append_left (g.done ++ ((row, index), set) ∷ []) left _ (last_in g.done ((row, index), set)))

pub gathering_end : (P : StateIndex → Type 0) (left all : Cells) (count : ℕ) (columns : List Bits) → left ≡ [] → IsGathering P left all count columns → AreGathered P all columns
gathering_end P left all count columns none g = subst (λ (es : Cells). AreGathered P es columns) (sym (append-nil g.done) ∙ ap (λ es. g.done ++ es) (sym none) ∙ g.whole) g.gathered

-- ---- all rows
abbrev pub AnyRow : StateIndex → Type 0
AnyRow row = Unit {0}

pub columns_of : (table : LaneTable) (columns : List Bits) → length columns ≡ table.conflicts → AreGathered AnyRow table.lookaheads.entries columns → AreColumns table columns
columns_of table columns counted g = record {
  counted = counted;
  tokens = λ k bit. (λ h. let f = (g.tokens k bit).0 h in (f.0, f.2), λ h. (g.tokens k bit).1 (h.0, tt, h.1));
}

pub columns_overlap : (table : LaneTable) → CellsOverlap AnyRow table.lookaheads.entries → ColumnsOverlap table
columns_overlap table o = record { first = o.first; second = o.second; apart = o.apart; bit = o.bit; here = (o.here.0, o.here.2); there = (o.there.0, o.there.2) }

-- ---- one row
pub row_of : (table : LaneTable) (state : StateIndex) (columns : List Bits) → length columns ≡ table.conflicts → AreGathered (ThisRow state) table.lookaheads.entries columns → IsRow table state columns
row_of table state columns counted g = record {
  counted = counted;
  tokens = λ k bit. (
    λ h. let f = (g.tokens k bit).0 h in (f.2.0, subst (λ (r : StateIndex). Contains table.lookaheads.entries ((r, column k), f.2.0)) f.1 f.2.1, f.2.2),
    λ h. (g.tokens k bit).1 (state, refl, h),
  );
}

pub row_overlaps : (table : LaneTable) (state : StateIndex) → CellsOverlap (ThisRow state) table.lookaheads.entries → RowOverlaps table state
row_overlaps table state o = record { first = o.first; second = o.second; apart = o.apart; bit = o.bit; here = at o.first o.here; there = at o.second o.there }
  where
    at : (k : ℕ) (h : HasIn (ThisRow state) table.lookaheads.entries k o.bit) → (set : Bits) × Contains table.lookaheads.entries ((state, column k), set) × (has set o.bit ≡ true)
    at k h = (h.2.0, subst (λ (r : StateIndex). Contains table.lookaheads.entries ((r, column k), h.2.0)) h.1 h.2.1, h.2.2)

-- A table keeps its old contents, and gains some of the additions of steps.
use Rattle.std.proofs.Common.{ℕ, inl, inr, ◌∙◌, refl, Result, Ok, Err, OnErr}
use Rattle.lalrpop_lanes.proofs.Types.{StateIndex}
use Rattle.lalrpop_lanes.specs.Words.{AddsSuccessor, AreSameTables, Gains, GainsSome, IsPair, KeepsAll, Nothing, Nowhere}
use Rattle.lalrpop_lanes.specs.declared.lane_table.table.LaneTable.{LaneTable}
use Rattle.lalrpop_lanes.proofs.theory.lanes.Gains.{Gains-successor}

-- a fact that holds anyway holds after an error
pub on_err : {T E P : Type 0} (r : Result T E) → P → OnErr r P
on_err (Ok x) p = tt
on_err (Err e) p = p

-- ---- kept contents
pub same_kept : (old new : LaneTable) → AreSameTables old new → KeepsAll old new
same_kept old new same = record {
  columns = same.columns;
  cells = λ row j c. (same.cells row j).1 c;
  tokens = λ row j bit h. (same.tokens row j bit).1 h;
  successors = λ left right n. (same.successors left right).1 n;
}

pub kept_all : (table : LaneTable) → KeepsAll table table
kept_all table = record { columns = refl; cells = λ row j c. c; tokens = λ row j bit h. h; successors = λ left right n. n }

kept_on : (a b c : LaneTable) → KeepsAll a b → KeepsAll b c → KeepsAll a c
kept_on a b c x y = record {
  columns = y.columns ∙ x.columns;
  cells = λ row j h. y.cells row j (x.cells row j h);
  tokens = λ row j bit h. y.tokens row j bit (x.tokens row j bit h);
  successors = λ left right h. y.successors left right (x.successors left right h);
}

-- ---- gained contents
module _ (k : ℕ) (Cell : ℕ → Type 0) (Bit Successor : ℕ → ℕ → Type 0) where
  -- a table that stays the same gains a part
  pub GainsSome-same : (old new : LaneTable) → AreSameTables old new → GainsSome k Cell Bit Successor old new
  GainsSome-same old new same = record {
    kept = same_kept old new same;
    cells = λ row j c. inl ((same.cells row j).0 c);
    tokens = λ row j bit h. inl ((same.tokens row j bit).0 h);
    successors = λ left right n. inl ((same.successors left right).0 n);
  }

  pub GainsSome-none : (table : LaneTable) → GainsSome k Cell Bit Successor table table
  GainsSome-none table = record {
    kept = kept_all table;
    cells = λ row j c. inl c;
    tokens = λ row j bit h. inl h;
    successors = λ left right n. inl n;
  }

  -- a whole gain is a part
  pub GainsSome-all : (old new : LaneTable) → Gains k Cell Bit Successor old new → GainsSome k Cell Bit Successor old new
  GainsSome-all old new g = record {
    kept = record {
      columns = g.columns;
      cells = λ row j c. (g.cells row j).1 (inl c);
      tokens = λ row j bit h. (g.tokens row j bit).1 (inl h);
      successors = λ left right n. (g.successors left right).1 (inl n);
    };
    cells = λ row j c. (g.cells row j).0 c;
    tokens = λ row j bit h. (g.tokens row j bit).0 h;
    successors = λ left right n. (g.successors left right).0 n;
  }

  -- two parts, one after the other
  pub GainsSome-then : (a b c : LaneTable) → GainsSome k Cell Bit Successor a b → GainsSome k Cell Bit Successor b c → GainsSome k Cell Bit Successor a c
  GainsSome-then a b c x y = record {
    kept = kept_on a b c x.kept y.kept;
    cells = λ row j h. elim (y.cells row j h) [ inl o ↦ x.cells row j o | inr n ↦ inr n ];
    tokens = λ row j bit h. elim (y.tokens row j bit h) [ inl o ↦ x.tokens row j bit o | inr n ↦ inr n ];
    successors = λ left right h. elim (y.successors left right h) [ inl o ↦ x.successors left right o | inr n ↦ inr n ];
  }

  -- once a table has a gain, the same gain adds nothing
  pub Gains-again : (a b c : LaneTable) → Gains k Cell Bit Successor a b → KeepsAll b c → Gains k Cell Bit Successor c c
  Gains-again a b c x kept = record {
    columns = refl;
    cells = λ row j. (λ h. inl h, λ h. elim h [ inl o ↦ o | inr n ↦ kept.cells row j ((x.cells row j).1 (inr n)) ]);
    tokens = λ row j bit. (λ h. inl h, λ h. elim h [ inl o ↦ o | inr n ↦ kept.tokens row j bit ((x.tokens row j bit).1 (inr n)) ]);
    successors = λ left right. (λ h. inl h, λ h. elim h [ inl o ↦ o | inr n ↦ kept.successors left right ((x.successors left right).1 (inr n)) ]);
  }

-- a successor that was refused, or added
pub GainsSome-refused : (left right : StateIndex) (old new : LaneTable) → AreSameTables old new → (k : ℕ) → GainsSome k Nowhere Nothing (IsPair left.0 right.0) old new
GainsSome-refused left right old new same k = GainsSome-same k Nowhere Nothing (IsPair left.0 right.0) old new same

pub GainsSome-successor : (left right : StateIndex) (old new : LaneTable) → AddsSuccessor left right old new → (k : ℕ) → GainsSome k Nowhere Nothing (IsPair left.0 right.0) old new
GainsSome-successor left right old new added k = GainsSome-all k Nowhere Nothing (IsPair left.0 right.0) old new (Gains-successor left right old new added k)

-- a part of some additions is a part of more additions
module _ (k : ℕ) (A C : ℕ → Type 0) (D F G I : ℕ → ℕ → Type 0) where
  pub GainsSome-wider : ((row : ℕ) → A row → C row) → ((row bit : ℕ) → D row bit → F row bit) → ((l r : ℕ) → G l r → I l r) → (old new : LaneTable) → GainsSome k A D G old new → GainsSome k C F I old new
  GainsSome-wider cell bit successor old new x = record {
    kept = x.kept;
    cells = λ row j h. elim (x.cells row j h) [ inl o ↦ inl o | inr n ↦ inr (n.0, cell row.0 n.1) ];
    tokens = λ row j q h. elim (x.tokens row j q h) [ inl o ↦ inl o | inr n ↦ inr (n.0, bit row.0 q n.1) ];
    successors = λ left right h. elim (x.successors left right h) [ inl o ↦ inl o | inr n ↦ inr (successor left.0 right.0 n) ];
  }

-- a whole step, and then a part of the next one
module _ (k : ℕ) (A B C : ℕ → Type 0) (D E F G H I : ℕ → ℕ → Type 0) where
  pub GainsSome-last : ((row : ℕ) → A row → C row) → ((row : ℕ) → B row → C row) → ((row bit : ℕ) → D row bit → F row bit) → ((row bit : ℕ) → E row bit → F row bit) → ((l r : ℕ) → G l r → I l r) → ((l r : ℕ) → H l r → I l r) →
      (a b c : LaneTable) → Gains k A D G a b → GainsSome k B E H b c → GainsSome k C F I a c
  GainsSome-last cl cr bl br sl sr a b c x y = GainsSome-then k C F I a b c (GainsSome-wider k A C D F G I cl bl sl a b (GainsSome-all k A D G a b x)) (GainsSome-wider k B C E F H I cr br sr b c y)

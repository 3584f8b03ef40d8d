-- A table gains the additions of several steps.
use Rattle.std.proofs.Common.{◌≡◌, ℕ, ◌⊎◌, inl, inr, sym, ◌∙◌, ap, refl, true}
use Rattle.std.specs.Prelude.{◌↔◌}
use Rattle.lalrpop_base.specs.Words.{Bits, has}
use Rattle.lalrpop_lanes.proofs.Types.{StateIndex}
use Rattle.lalrpop_lanes.specs.Words.{Gains, Nowhere, Nothing, IsPair, AddsTokens, AddsSuccessor}
use Rattle.lalrpop_lanes.specs.declared.lane_table.table.LaneTable.{LaneTable}

pub same_index : (a b : StateIndex) → a.0 ≡ b.0 → a ≡ b
same_index a b e = let make : ℕ → StateIndex = λ n. record { 0 = n } in ap make e

-- if there is no more, or more of the same, two conditions stay equivalent
no_more : {A B : Type 0} → (B → ⊥) → A ↔ (A ⊎ B)
no_more none = (λ a. inl a, λ h. elim h [ inl a ↦ a | inr b ↦ absurd (none b) ])

with_none : {A B C : Type 0} → A ↔ B → (C → ⊥) → A ↔ (B ⊎ C)
with_none same none = (λ a. inl (same.0 a), λ h. elim h [ inl b ↦ same.1 b | inr c ↦ absurd (none c) ])

in_turn : {A B C P Q R : Type 0} → B ↔ (A ⊎ P) → C ↔ (B ⊎ Q) → (P → R) → (Q → R) → (R → P ⊎ Q) → C ↔ (A ⊎ R)
in_turn first second left right cases = (
  λ c. elim (second.0 c) [ inl b ↦ elim (first.0 b) [ inl a ↦ inl a | inr p ↦ inr (left p) ] | inr q ↦ inr (right q) ],
  λ h. elim h [ inl a ↦ second.1 (inl (first.1 (inl a))) | inr r ↦ elim (cases r) [ inl p ↦ second.1 (inl (first.1 (inr p))) | inr q ↦ second.1 (inr q) ] ],
)

pub as_well : {A B P R : Type 0} → B ↔ (A ⊎ P) → (P → R) → (R → P) → B ↔ (A ⊎ R)
as_well first to from = (λ b. elim (first.0 b) [ inl a ↦ inl a | inr p ↦ inr (to p) ], λ h. elim h [ inl a ↦ first.1 (inl a) | inr r ↦ first.1 (inr (from r)) ])

pub Gains-none : (k : ℕ) (Cell : ℕ → Type 0) (Bit Successor : ℕ → ℕ → Type 0) (table : LaneTable) → ((row : ℕ) → Cell row → ⊥) → ((row bit : ℕ) → Bit row bit → ⊥) → ((l r : ℕ) → Successor l r → ⊥) → Gains k Cell Bit Successor table table
Gains-none k Cell Bit Successor table no_cell no_bit no_successor = record {
  columns = refl;
  cells = λ row j. no_more (λ h. no_cell row.0 h.1);
  tokens = λ row j bit. no_more (λ h. no_bit row.0 bit h.1);
  successors = λ left right. no_more (λ h. no_successor left.0 right.0 h);
}

-- an added successor is gained
pub Gains-successor : (left right : StateIndex) (old new : LaneTable) → AddsSuccessor left right old new → (k : ℕ) → Gains k Nowhere Nothing (IsPair left.0 right.0) old new
Gains-successor left right old new added k = record {
  columns = added.columns;
  cells = λ row j. with_none (added.cells row j) (λ h. h.1);
  tokens = λ row j bit. with_none (added.tokens row j bit) (λ h. h.1);
  successors = λ l r. as_well (added.successors l r) (λ h. record { left = ap (λ (n : StateIndex). n.0) (sym h.0); right = ap (λ (n : StateIndex). n.0) (sym h.1) }) (λ h. (same_index l left (sym h.left), same_index r right (sym h.right)));
}

-- added tokens are gained
pub Gains-tokens : (state : StateIndex) (k : ℕ) (set : Bits) (old new : LaneTable) → AddsTokens state k set old new → Gains k (λ row. state.0 ≡ row) (λ row bit. (state.0 ≡ row) × (has set bit ≡ true)) Nothing old new
Gains-tokens state k set old new added = record {
  columns = added.columns;
  cells = λ row j. as_well (added.cells row j) (λ h. (h.1, ap (λ (n : StateIndex). n.0) (sym h.0))) (λ h. (same_index row state (sym h.1), h.0));
  tokens = λ row j bit. as_well (added.tokens row j bit) (λ h. (h.1, (ap (λ (n : StateIndex). n.0) (sym h.0), h.2))) (λ h. (same_index row state (sym h.1.0), h.0, h.1.1));
  successors = λ l r. with_none (added.successors l r) (λ h. h);
}

-- two gains, one after the other
module _ (k : ℕ) (A B C : ℕ → Type 0) (D E F G H I : ℕ → ℕ → Type 0) where
  pub Gains-then : ((row : ℕ) → A row → C row) → ((row : ℕ) → B row → C row) → ((row : ℕ) → C row → A row ⊎ B row) → ((row bit : ℕ) → D row bit → F row bit) → ((row bit : ℕ) → E row bit → F row bit) → ((row bit : ℕ) → F row bit → D row bit ⊎ E row bit) →
      ((l r : ℕ) → G l r → I l r) → ((l r : ℕ) → H l r → I l r) → ((l r : ℕ) → I l r → G l r ⊎ H l r) → (a b c : LaneTable) → Gains k A D G a b → Gains k B E H b c → Gains k C F I a c
  Gains-then cl cr cc' bl br bc sl sr sc a b c x y = record {
    columns = y.columns ∙ x.columns;
    cells = λ row j. in_turn (x.cells row j) (y.cells row j) (λ h. (h.0, cl row.0 h.1)) (λ h. (h.0, cr row.0 h.1)) (λ h. elim (cc' row.0 h.1) [ inl p ↦ inl (h.0, p) | inr q ↦ inr (h.0, q) ]);
    tokens = λ row j bit. in_turn (x.tokens row j bit) (y.tokens row j bit) (λ h. (h.0, bl row.0 bit h.1)) (λ h. (h.0, br row.0 bit h.1)) (λ h. elim (bc row.0 bit h.1) [ inl p ↦ inl (h.0, p) | inr q ↦ inr (h.0, q) ]);
    successors = λ l r. in_turn (x.successors l r) (y.successors l r) (sl l.0 r.0) (sr l.0 r.0) (sc l.0 r.0);
  }

-- a gain under equivalent conditions
module _ (k : ℕ) (A C : ℕ → Type 0) (D F G I : ℕ → ℕ → Type 0) where
  pub Gains-same : ((row : ℕ) → A row ↔ C row) → ((row bit : ℕ) → D row bit ↔ F row bit) → ((l r : ℕ) → G l r ↔ I l r) → (a b : LaneTable) → Gains k A D G a b → Gains k C F I a b
  Gains-same cell bit successor a b x = record {
    columns = x.columns;
    cells = λ row j. as_well (x.cells row j) (λ h. (h.0, (cell row.0).0 h.1)) (λ h. (h.0, (cell row.0).1 h.1));
    tokens = λ row j q. as_well (x.tokens row j q) (λ h. (h.0, (bit row.0 q).0 h.1)) (λ h. (h.0, (bit row.0 q).1 h.1));
    successors = λ l r. as_well (x.successors l r) (successor l.0 r.0).0 (successor l.0 r.0).1;
  }

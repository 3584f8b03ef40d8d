-- A lane table stays closed when it takes an action: each state of a lane is listed, and has a cell
-- or a successor.
use Rattle.std.proofs.Common.{◌≡◌, ℕ, ◌<◌, ◌⊎◌, inl, inr, List, length, refl, sym, subst}
use Rattle.std.specs.Prelude.{Contains}
use Rattle.lalrpop_base.specs.Words.{LeadsBack, IsTracedTo, itself, back, IsLaneSuccessor, Contents, Rules}
use Rattle.lalrpop_lane_states.proofs.Types.{Action, NonterminalString, Production, State, StateIndex}
use Rattle.lalrpop_states.specs.declared.lr1_core.state.Action.TheVariants.{Shift, Reduce}
use Rattle.lalrpop_lanes.specs.Words.{GivesAt, HasCell, HasRow, IsClosed, IsEmptyTable, IsSuccessor, TakesAction, TakesLane}
use Rattle.lalrpop_state_graph.specs.Words.{index}
use Rattle.lalrpop_construction.specs.Words.{places_in}
use Rattle.lalrpop_lanes.specs.declared.lane_table.table.LaneTable.{LaneTable}
use Rattle.lalrpop_state_graph.proofs.theory.states.EdgeLeads.{leads_within}
use Rattle.lalrpop_lanes.proofs.theory.lanes.Gains.{same_index}
use Rattle.lalrpop_lanes.proofs.theory.lanes.LaneTraces.{traced_on}
use Rattle.lalrpop_lanes.proofs.theory.lanes.Unshifting.{back_cases}

-- ---- the states of a lane are listed
module _ {L : Type 0} (states : List (State L)) (g : List Production) where
  listed_back : {s : ℕ} {p : Production} {i r : ℕ} {q : Production} {e : ℕ} → LeadsBack g (places_in states) s p i r q e → s < length states → r < length states
  listed_back {s} {p} {i} {r} b listed = elim (back_cases g (places_in states) b) [
    | inl o ↦ leads_within states r s o.symbol o.edge
    | inr t ↦ subst (λ (n : ℕ). n < length states) (sym t.here) listed
  ]

  pub listed_on : {s n : ℕ} {p k : Production} {dot d : ℕ} → IsTracedTo g (places_in states) s p dot n k d → s < length states → n < length states
  listed_on itself listed = listed
  listed_on (back b t) listed = listed_on t (listed_back b listed)

-- ---- each state of a lane is its first, or has a cell of the lane, or has a successor
module _ (g : Rules) (start : NonterminalString) (states : ℕ → Contents) (s : ℕ) (p : Production) where
  abbrev pub IsOnLane : ℕ → Type 0
  IsOnLane n = (n ≡ s) ⊎ (GivesAt g start states s p n ⊎ ((right : ℕ) × IsLaneSuccessor g.productions states s p (length p.symbols) n right))

  on_lane_back : {n r : ℕ} {q k : Production} {i d : ℕ} → IsTracedTo g.productions states s p (length p.symbols) n q i → LeadsBack g.productions states n q i r k d → IsOnLane r
  on_lane_back {n} {r} {q} {k} {i} {d} t b = elim (back_cases g.productions states b) [
    | inl o ↦ inr (inr (
      n,
      record {
        production = q;
        index = d;
        symbol = o.symbol;
        after = o.after;
        traced = subst (λ (m : ℕ). IsTracedTo g.productions states s p (length p.symbols) n q m) o.moved t;
        edge = o.edge;
        behind = o.behind;
      },
    ))
    | inr o ↦ inr (inl (record {
      production = q;
      traced = subst (λ (m : ℕ). IsTracedTo g.productions states s p (length p.symbols) m q 0) (sym o.here) (subst (λ (m : ℕ). IsTracedTo g.productions states s p (length p.symbols) n q m) o.begun t);
      given = inr (record { production = k; dot = d; after = o.after; item = subst (λ (m : ℕ). Contains (states m).items (k, d)) (sym o.here) o.item; behind = o.behind });
    }))
  ]

  pub on_lane : {n r : ℕ} {q k : Production} {i d : ℕ} → IsTracedTo g.productions states s p (length p.symbols) n q i → IsOnLane n → IsTracedTo g.productions states n q i r k d → IsOnLane r
  on_lane first at itself = at
  on_lane first at (back b t) = on_lane (traced_on first b) (on_lane_back first b) t

-- ---- tables
pub none_closed : (count : ℕ) (table : LaneTable) → IsEmptyTable table → IsClosed count table
none_closed count table empty = record {
  cells = λ row k c. absurd (empty.cells row k c);
  numbers = λ left right n. absurd (empty.successors left right n);
  rows = λ left right n. absurd (empty.successors left right n);
}

module _ (old new : LaneTable) (cells : (row : StateIndex) (j : ℕ) → HasCell old row j → HasCell new row j) (successors : (left right : StateIndex) → IsSuccessor old left right → IsSuccessor new left right) where
  row_kept : (row : StateIndex) → HasRow old row → HasRow new row
  row_kept row h = elim h [ inl c ↦ inl (c.0, cells row c.0 c.1) | inr n ↦ inr (n.0, successors row n.0 n.1) ]

module _ {L : Type 0} (g : Rules) (start : NonterminalString) (states : List (State L)) (s : StateIndex) (k : ℕ) where
  lane_row : (p : Production) (old new : LaneTable) → TakesLane g start (places_in states) s p k old new → (row : StateIndex) → IsOnLane g start (places_in states) s.0 p row.0 → HasRow new row
  lane_row p old new takes row h = elim h [
    | inl e ↦ inl (k, (takes.cells row k).1 (inr (refl, inl (same_index row s e))))
    | inr more ↦ elim more [
      | inl gives ↦ inl (k, (takes.cells row k).1 (inr (refl, inr gives)))
      | inr next ↦ inr (index next.0, (takes.successors row (index next.0)).1 (inr next.1))
    ]
  ]

  pub old_row : (action : Action) (old new : LaneTable) → TakesAction g start (places_in states) s k action old new → (row : StateIndex) → HasRow old row → HasRow new row
  old_row (Shift t target) old new takes row h = row_kept old new (λ r j c. (takes.2.cells r j).1 (inl c)) (λ a b n. (takes.2.successors a b).1 n) row h
  old_row (Reduce p) old new takes row h = row_kept old new (λ r j c. (takes.cells r j).1 (inl c)) (λ a b n. (takes.successors a b).1 (inl n)) row h

  -- the state of the action has a row
  pub own_row : (action : Action) (old new : LaneTable) → TakesAction g start (places_in states) s k action old new → HasRow new s
  own_row (Shift t target) old new takes = inl (k, (takes.2.cells s k).1 (inr (refl, refl)))
  own_row (Reduce p) old new takes = inl (k, (takes.cells s k).1 (inr (refl, inl refl)))

  pub more_closed : (action : Action) (old new : LaneTable) → s.0 < length states → TakesAction g start (places_in states) s k action old new → IsClosed (length states) old → IsClosed (length states) new
  more_closed (Shift t target) old new listed takes h = record {
    cells = λ row j c. elim ((takes.2.cells row j).0 c) [ inl o ↦ h.cells row j o | inr n ↦ subst (λ (x : StateIndex). x.0 < length states) (sym n.0) listed ];
    numbers = λ left right n. h.numbers left right ((takes.2.successors left right).0 n);
    rows = λ left right n. old_row (Shift t target) old new takes right (h.rows left right ((takes.2.successors left right).0 n));
  }
  more_closed (Reduce p) old new listed takes h = record {
    cells = λ row j c. elim ((takes.cells row j).0 c) [
      | inl o ↦ h.cells row j o
      | inr n ↦ elim n.1 [ inl e ↦ subst (λ (x : StateIndex). x.0 < length states) (sym e) listed | inr gives ↦ listed_on states g.productions gives.traced listed ]
    ];
    numbers = λ left right n. elim ((takes.successors left right).0 n) [
      | inl o ↦ h.numbers left right o
      | inr next ↦ (leads_within states left.0 right.0 next.symbol next.edge, listed_on states g.productions next.traced listed)
    ];
    rows = λ left right n. elim ((takes.successors left right).0 n) [
      | inl o ↦ old_row (Reduce p) old new takes right (h.rows left right o)
      | inr next ↦ lane_row p.now old new takes right (on_lane g start (places_in states) s.0 p.now itself (inl refl) next.traced)
    ];
  }

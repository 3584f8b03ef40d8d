-- The lane of a reduction, or a part of it: the cell where it starts, and the contributions of the
-- places to which it leads.
use Rattle.std.proofs.Common.{◌≡◌, ℕ, suc, ◌⊎◌, inl, inr, length, refl, sym, ◌∙◌, ap, subst, true}
use mathlib.Core.Bool.{true≢false}
use Rattle.lalrpop_base.specs.Words.{Bits, has, no_bits, has-no_bits, IsTracedTo, IsLaneSuccessor, Contents, Rules, rules_of, at_place}
use Rattle.lalrpop_lanes.proofs.Types.{Production, StateIndex}
use Rattle.lalrpop_lanes.specs.Words.{Gains, GainsSomeOfAll, Nothing, GivesCell, GivesBit, GivesSuccessor, TracesTo, GainsAll, AddsTokens}
use Rattle.lalrpop_lanes.specs.Words.{AreSameTables, GivesAt, IsLaneBit, TakesLane, TakesPartOfLane}
use Rattle.lalrpop_construction.specs.Words.{places_in}
use Rattle.lalrpop_lanes.specs.declared.lane_table.lane.automaton.Automaton.{Automaton}
use Rattle.lalrpop_lanes.specs.declared.lane_table.table.LaneTable.{LaneTable}
use Rattle.lalrpop_states.specs.declared.lr1_core.place.Place.{Place}
use Rattle.lalrpop_lanes.proofs.theory.lanes.Gains.{same_index, as_well, Gains-tokens, Gains-then}
use Rattle.lalrpop_lanes.proofs.theory.lanes.GainsSome.{GainsSome-last, same_kept}

module _ {L : Type 0} (automaton : Automaton L) (s : StateIndex) (p : Production) where
  abbrev R : Rules
  R = rules_of automaton.grammar.now

  abbrev S : ℕ → Contents
  S = places_in automaton.states.now

  abbrev first : Place
  first = at_place s.0 p (length p.symbols)

  abbrev Cell : ℕ → Place → Type 0
  Cell row q = GivesCell R automaton.start.now S q row

  abbrev Bit : ℕ → ℕ → Place → Type 0
  Bit row bit q = GivesBit R automaton.start.now S q row bit

  abbrev Step : ℕ → ℕ → Place → Type 0
  Step l r q = GivesSuccessor R automaton.start.now S q l r

  -- ---- each place by itself
  gives_at : (row : ℕ) → TracesTo automaton first (Cell row) → GivesAt R automaton.start.now S s.0 p row
  gives_at row (q, t, c) = record {
    production = q.item.production;
    traced = subst (λ (i : ℕ). IsTracedTo R.productions S s.0 p (length p.symbols) row q.item.production i) c.begun (subst (λ (n : ℕ). IsTracedTo R.productions S s.0 p (length p.symbols) n q.item.production q.item.index) c.here t);
    given = c.given;
  }

  at_gives : (row : ℕ) → GivesAt R automaton.start.now S s.0 p row → TracesTo automaton first (Cell row)
  at_gives row h = (at_place row h.production 0, h.traced, record { here = refl; begun = refl; given = h.given })

  lane_bit : (row bit : ℕ) → TracesTo automaton first (Bit row bit) → IsLaneBit R automaton.start.now S s.0 p row bit
  lane_bit row bit (q, t, b) = record {
    token = b.token;
    number = b.number;
    lane = record {
      production = q.item.production;
      index = q.item.index;
      traced = subst (λ (n : ℕ). IsTracedTo R.productions S s.0 p (length p.symbols) n q.item.production q.item.index) b.here t;
      gives = b.gives;
    };
  }

  bit_lane : (row bit : ℕ) → IsLaneBit R automaton.start.now S s.0 p row bit → TracesTo automaton first (Bit row bit)
  bit_lane row bit h = (at_place row (h.lane).production (h.lane).index, (h.lane).traced, record { here = refl; token = h.token; number = h.number; gives = (h.lane).gives })

  lane_step : (l r : ℕ) → TracesTo automaton first (Step l r) → IsLaneSuccessor R.productions S s.0 p (length p.symbols) l r
  lane_step l r (q, t, b) = record {
    production = q.item.production;
    index = b.index;
    symbol = b.symbol;
    after = b.after;
    traced = subst (λ (i : ℕ). IsTracedTo R.productions S s.0 p (length p.symbols) r q.item.production i) b.moved (subst (λ (n : ℕ). IsTracedTo R.productions S s.0 p (length p.symbols) n q.item.production q.item.index) b.here t);
    edge = b.edge;
    behind = b.behind;
  }

  step_lane : (l r : ℕ) → IsLaneSuccessor R.productions S s.0 p (length p.symbols) l r → TracesTo automaton first (Step l r)
  step_lane l r h = (at_place r h.production (suc h.index), h.traced, record { here = refl; index = h.index; moved = refl; symbol = h.symbol; after = h.after; edge = h.edge; behind = h.behind })

  -- a table that stays the same took a part of the lane
  pub nothing_taken : (k : ℕ) (old new : LaneTable) → AreSameTables old new → TakesPartOfLane R automaton.start.now S s p k old new
  nothing_taken k old new same = record {
    kept = same_kept old new same;
    cells = λ row j c. inl ((same.cells row j).0 c);
    tokens = λ row j bit h. inl ((same.tokens row j bit).0 h);
    successors = λ left right n. inl ((same.successors left right).0 n);
  }

  -- ---- all together
  module _ (k : ℕ) (set : Bits) (old middle new : LaneTable) (empty : set ≡ no_bits) (added : AddsTokens s k set old middle) where
    no_bit : (bit : ℕ) → has set bit ≡ true → ⊥
    no_bit bit h = true≢false (sym h ∙ ap (λ (b : Bits). has b bit) empty ∙ has-no_bits bit)

    whole : GainsAll automaton first k middle new → Gains k (λ row. (s.0 ≡ row) ⊎ TracesTo automaton first (Cell row)) (λ row bit. TracesTo automaton first (Bit row bit)) (λ l r. TracesTo automaton first (Step l r)) old new
    whole gains = Gains-then k (λ row. s.0 ≡ row) (λ row. TracesTo automaton first (Cell row)) (λ row. (s.0 ≡ row) ⊎ TracesTo automaton first (Cell row)) (λ row bit. (s.0 ≡ row) × (has set bit ≡ true)) (λ row bit. TracesTo automaton first (Bit row bit)) (λ row bit. TracesTo automaton first (Bit row bit)) Nothing (λ l r. TracesTo automaton first (Step l r)) (λ l r. TracesTo automaton first (Step l r))
        (λ row h. inl h) (λ row h. inr h) (λ row h. h) (λ row bit h. absurd (no_bit bit h.1)) (λ row bit h. h) (λ row bit h. inr h) (λ l r n. absurd n) (λ l r h. h) (λ l r h. inr h) old middle new (Gains-tokens s k set old middle added) gains

    pub lane_taken : (place : Place) → place ≡ first → GainsAll automaton place k middle new → TakesLane R automaton.start.now S s p k old new
    lane_taken place is gained =
        let g = whole (subst (λ (x : Place). GainsAll automaton x k middle new) is gained) in
        record {
          columns = g.columns;
          cells = λ row j. as_well (g.cells row j) (λ h. (h.0, elim h.1 [ inl e ↦ inl (same_index row s (sym e)) | inr m ↦ inr (gives_at row.0 m) ])) (λ h. (h.0, elim h.1 [ inl e ↦ inl (ap (λ (n : StateIndex). n.0) (sym e)) | inr m ↦ inr (at_gives row.0 m) ]));
          tokens = λ row j bit. as_well (g.tokens row j bit) (λ h. (h.0, lane_bit row.0 bit h.1)) (λ h. (h.0, bit_lane row.0 bit h.1));
          successors = λ left right. as_well (g.successors left right) (lane_step left.0 right.0) (step_lane left.0 right.0);
        }

    -- the first cell was added, and a part of the rest
    pub part_taken : (place : Place) → place ≡ first → GainsSomeOfAll automaton place k middle new → TakesPartOfLane R automaton.start.now S s p k old new
    part_taken place is gained =
        let g = GainsSome-last k (λ row. s.0 ≡ row) (λ row. TracesTo automaton first (Cell row)) (λ row. (s.0 ≡ row) ⊎ TracesTo automaton first (Cell row)) (λ row bit. (s.0 ≡ row) × (has set bit ≡ true)) (λ row bit. TracesTo automaton first (Bit row bit)) (λ row bit. TracesTo automaton first (Bit row bit)) Nothing (λ l r. TracesTo automaton first (Step l r)) (λ l r. TracesTo automaton first (Step l r))
        (λ row h. inl h) (λ row h. inr h) (λ row bit h. absurd (no_bit bit h.1)) (λ row bit h. h) (λ l r n. absurd n) (λ l r h. h) old middle new (Gains-tokens s k set old middle added) (subst (λ (x : Place). GainsSomeOfAll automaton x k middle new) is gained) in
        record {
          kept = g.kept;
          cells = λ row j c. elim (g.cells row j c) [ inl o ↦ inl o | inr n ↦ inr (n.0, elim n.1 [ inl e ↦ inl (same_index row s (sym e)) | inr m ↦ inr (gives_at row.0 m) ]) ];
          tokens = λ row j bit h. elim (g.tokens row j bit h) [ inl o ↦ inl o | inr n ↦ inr (n.0, lane_bit row.0 bit n.1) ];
          successors = λ left right n. elim (g.successors left right n) [ inl o ↦ inl o | inr m ↦ inr (lane_step left.0 right.0 m) ];
        }

-- The cells, tokens and successors that tracing an action back leaves in a lane table: the lanes of
-- Pager 1977.
use Rattle.std.specs.Prelude.{◌≡◌, ◌⊎◌, ◌↔◌, ℕ, true, List, length, slice_get, Some, Contains}
use Rattle.lalrpop_base.specs.Words.{Bits, has, AreCoherent, Dotted, IsTracedTo, IsLaneTokenAt, IsLaneSuccessor, Contents, IsBehindDot, IsBitOf}
use Rattle.lalrpop_base.specs.Words.{Rules, IsWellFormed, productions, rules_of}
use Rattle.lalrpop_grammar.specs.declared.lookahead.token.Token.{Token}
use Rattle.lalrpop_states.specs.declared.lr1_core.state.Action.{Action}
use Rattle.lalrpop_states.specs.declared.lr1_core.state.Action.TheVariants.{Shift, Reduce}
use Rattle.lalrpop_states.specs.declared.lr1_core.state.State.{State}
use Rattle.lalrpop_states.specs.declared.lr1_core.state.StateIndex.{StateIndex}
use Rattle.lalrpop_grammar.specs.declared.repr.NonterminalString.{NonterminalString}
use Rattle.lalrpop_grammar.specs.declared.repr.Production.{Production}
use Rattle.lalrpop_grammar.specs.declared.repr.Symbol.TheVariants.{Nonterminal}
use Rattle.lalrpop_lanes.specs.lane_tables.LaneTables.{HasCell, HasBit, IsSuccessor, AddsTokens, AreInRange, AreSameTables, KeepsAll}
use Rattle.lalrpop_state_graph.specs.graphs.StateGraph.{edges, IsGraphOf}
use Rattle.lalrpop_lanes.specs.declared.lane_table.lane.LaneTracer.{LaneTracer}
use Rattle.lalrpop_lanes.specs.declared.lane_table.table.LaneTable.{LaneTable}

-- each item of a state is of a production of the grammar
abbrev pub HaveOwnItems : {L : Type 0} → List Production → List (State L) → Type 0
HaveOwnItems {L} productions states = (n : ℕ) (state : State L) (item : Dotted L) → slice_get states n ≡ Some state → Contains state.items.vec.items item → Contains productions item.production

-- a tracer is ready: its grammar is well-formed, its states are coherent and have items of the
-- grammar's productions, the graph is that of the states and the FIRST sets are those of the
-- grammar, and no cell of its table is past the columns
pub record IsReadyToTrace {L : Type 0} (tracer : LaneTracer L) : Type 0 where
  pub well_formed : IsWellFormed tracer.grammar.now
  pub coherent : AreCoherent tracer.states.now
  pub own : HaveOwnItems (productions tracer.grammar.now) tracer.states.now
  pub firsts : tracer.first_sets.now ≡ rules_of tracer.grammar.now
  pub graph : IsGraphOf (edges tracer.states.now) tracer.state_graph.now
  pub in_range : AreInRange tracer.table

-- if the action is a reduction, it is by a production of the grammar
abbrev pub ReducesOwn : List Production → Action → Type 0
ReducesOwn productions (Shift t target) = Unit {0}
ReducesOwn productions (Reduce p) = Contains productions p.now

module _ (g : Rules) (start : NonterminalString) (states : ℕ → Contents) where
  -- the lane leads to a place that gives a cell in the row, which may be empty: its dot is at the
  -- start, and its nonterminal is the start symbol or is after a dot in the state
  pub record GivesAt (s : ℕ) (p : Production) (row : ℕ) : Type 0 where
    pub production : Production
    pub traced : IsTracedTo g.productions states s p (length p.symbols) row production 0
    pub given : (production.nonterminal ≡ start) ⊎ IsBehindDot (states row) (Nonterminal production.nonterminal)

  -- the bit is that of a token which the lane of a reduction has in the row
  pub record IsLaneBit (s : ℕ) (p : Production) (row bit : ℕ) : Type 0 where
    pub token : Token
    pub number : IsBitOf g.terminals token bit
    pub lane : IsLaneTokenAt g.productions start states s p (length p.symbols) row token

  -- the table took the lane of a reduction from a state into a column: the tokens of the lane in
  -- each row, the cells that the lane gives and one in the row of the state, and the successors
  pub record TakesLane (s : StateIndex) (p : Production) (k : ℕ) (old new : LaneTable) : Type 0 where
    pub columns : new.conflicts ≡ old.conflicts
    pub cells : (row : StateIndex) (j : ℕ) → HasCell new row j ↔ (HasCell old row j ⊎ ((j ≡ k) × ((row ≡ s) ⊎ GivesAt s.0 p row.0)))
    pub tokens : (row : StateIndex) (j bit : ℕ) → HasBit new row j bit ↔ (HasBit old row j bit ⊎ ((j ≡ k) × IsLaneBit s.0 p row.0 bit))
    pub successors : (left right : StateIndex) → IsSuccessor new left right ↔ (IsSuccessor old left right ⊎ IsLaneSuccessor g.productions states s.0 p (length p.symbols) left.0 right.0)

  -- the table took an action into a column: for a shift the bit of its terminal, if the grammar has
  -- it, in the row of the state; for a reduction its lane
  abbrev pub TakesAction : StateIndex → ℕ → Action → LaneTable → LaneTable → Type 0
  TakesAction s k (Shift t target) old new = (set : Bits) × ((bit : ℕ) → (has set bit ≡ true) ↔ (slice_get g.terminals bit ≡ Some t)) × AddsTokens s k set old new
  TakesAction s k (Reduce p) old new = TakesLane s p.now k old new

  -- the table took a part of the lane of a reduction from a state into a column: it kept its old
  -- contents, and the new contents are of the lane
  pub record TakesPartOfLane (s : StateIndex) (p : Production) (k : ℕ) (old new : LaneTable) : Type 0 where
    pub kept : KeepsAll old new
    pub cells : (row : StateIndex) (j : ℕ) → HasCell new row j → HasCell old row j ⊎ ((j ≡ k) × ((row ≡ s) ⊎ GivesAt s.0 p row.0))
    pub tokens : (row : StateIndex) (j bit : ℕ) → HasBit new row j bit → HasBit old row j bit ⊎ ((j ≡ k) × IsLaneBit s.0 p row.0 bit)
    pub successors : (left right : StateIndex) → IsSuccessor new left right → IsSuccessor old left right ⊎ IsLaneSuccessor g.productions states s.0 p (length p.symbols) left.0 right.0

  -- the table took nothing of a shift, and a part of the lane of a reduction
  abbrev pub TakesPartOfAction : StateIndex → ℕ → Action → LaneTable → LaneTable → Type 0
  TakesPartOfAction s k (Shift t target) old new = AreSameTables old new
  TakesPartOfAction s k (Reduce p) old new = TakesPartOfLane s p.now k old new

-- States that are resolved one after the other, while some are copied.
use Rattle.std.specs.Prelude.{◌≡◌, ◌≤◌, ◌<◌, ◌+◌, ◌⊎◌, ℕ, Bool, true, false, List, length, map, slice_get, Some}
use Rattle.lalrpop_base.specs.Words.{Bits, Rules, number_in}
use Rattle.lalrpop_states.specs.declared.lr1_core.state.Action.{Action}
use Rattle.lalrpop_states.specs.declared.lr1_core.state.State.{State}
use Rattle.lalrpop_grammar.specs.declared.repr.NonterminalString.{NonterminalString}
use Rattle.lalrpop_lane_states.specs.lane_states.LaneStates.{AreLaneStates, AreTraced, IsResolvedAt}
use Rattle.lalrpop_lane_states.specs.lane_states.Lr0Copies.{AreLr0Copies}
use Rattle.lalrpop_lanes.specs.lane_tables.LaneTables.{ColumnsOverlap}
use Rattle.lalrpop_lane_states.specs.lanes.LaneActions.{AreActions, asked_actions}
use Rattle.lalrpop_construction.specs.states.SamePlaces.{HaveSamePlaces, places_in}
use Rattle.lalrpop_state_graph.specs.graphs.Copies.{AreCopies}
use Rattle.lalrpop_lane_states.specs.merges.Merges.{AreApart}
use Rattle.lalrpop_state_graph.specs.graphs.StateGraph.{edges, IsGraphOf}
use Rattle.lalrpop_lane_states.specs.declared.lane_table.construct.copying.Copying.{Copying}
use Rattle.lalrpop_lanes.specs.declared.lane_table.table.LaneTable.{LaneTable}

-- the states are the LR(0) states of the grammar, which were handed in, and copies of these, each
-- with the number of its original; the copies made and those left add up to the limit; the graph is
-- that of the states
pub record IsResolving (g : Rules) (start : NonterminalString) (copies : ℕ) (handed : List (State Bits)) (copying : Copying) : Type 0 where
  pub made : AreLaneStates g start handed
  pub each : AreCopies false handed copying.originals.items copying.states.items
  pub counted : copying.copies_left + length copying.states.items ≡ copies + length handed
  pub graph : IsGraphOf (edges copying.states.items) copying.graph

-- the new states are the old ones and copies of them, each with the number of its first original;
-- each copy lowers the number of copies left; the graph is that of the new states
pub record IsCopied (old new : Copying) : Type 0 where
  pub originals : List ℕ
  pub each : AreCopies false old.states.items originals new.states.items
  pub first : new.originals.items ≡ map (number_in old.originals.items) originals
  pub counted : new.copies_left + length new.states.items ≡ old.copies_left + length old.states.items
  pub graph : IsGraphOf (edges new.states.items) new.graph

-- ---- resolved states
-- no two reductions of the state with the number share a token, unless they are by one production
abbrev pub IsApartAt : List (State Bits) → ℕ → Type 0
IsApartAt states n = (state : State Bits) → slice_get states n ≡ Some state → AreApart state.reductions.items

-- the state with the number has the same reductions as before
abbrev pub HasSameReductions : List (State Bits) → List (State Bits) → ℕ → Type 0
HasSameReductions old new n = (before after : State Bits) → slice_get old n ≡ Some before → slice_get new n ≡ Some after → after.reductions.items ≡ before.reductions.items

-- a state was resolved or not. If it was, no two of its reductions by different productions share a
-- token. All other states kept their reductions, and so did this one if it was not resolved. No
-- state was lost
pub record IsResolveStep (index : ℕ) (resolved : Bool) (old new : List (State Bits)) : Type 0 where
  pub apart : resolved ≡ true → IsApartAt new index
  pub kept : (n : ℕ) → (resolved ≡ true → n ≡ index → ⊥) → HasSameReductions old new n
  pub longer : length old ≤ length new

-- the states from the first number up to the end hold exactly the tokens of their lanes, and have
-- no conflict; all other states kept their reductions, and no state changed in anything else
pub record AreResolvedBetween (g : Rules) (start : NonterminalString) (first end : ℕ) (old new : List (State Bits)) : Type 0 where
  pub begun : first ≤ end
  pub within : end ≤ length new
  pub same : HaveSamePlaces old new
  pub resolved : (n : ℕ) → first ≤ n → n < end → IsResolvedAt g start old n new
  pub kept : (n : ℕ) → (first ≤ n → n < end → ⊥) → HasSameReductions old new n

-- the lanes of two actions of the state with the number share a token, over LR(0) states and copies
-- of these
pub record HasOverlap (g : Rules) (start : NonterminalString) (copies : ℕ) (n : ℕ) : Type 0 where
  pub states : List (State Bits)
  pub made : AreLr0Copies g start copies states
  pub state : State Bits
  pub there : slice_get states n ≡ Some state
  pub actions : List Action
  pub asked : AreActions (asked_actions g.terminals state) actions
  pub table : LaneTable
  pub traced : AreTraced g start (places_in states) n actions table
  pub overlap : ColumnsOverlap table

-- the states from the first number up to the last are resolved, copies too. The states before the
-- first and from the last on have the reductions that were handed in. The last is the end of the
-- list, or a state of which two actions share a token
pub record AreResolvedUpTo (g : Rules) (start : NonterminalString) (copies : ℕ) (first last : ℕ) (handed states : List (State Bits)) : Type 0 where
  pub before : (n : ℕ) → n < first → HasSameReductions handed states n
  pub resolved : (n : ℕ) → first ≤ n → n < last → IsApartAt states n
  pub left : (n : ℕ) → last ≤ n → HasSameReductions handed states n
  pub ends : (last ≡ length states) ⊎ HasOverlap g start copies last

-- Sets of states that were joined, each with the tokens of its states (Pager 1977, "A practical
-- general method for constructing LR(k) parsers").
use Rattle.std.specs.Prelude.{◌≡◌, ◌≤◌, ◌<◌, ◌⊎◌, ◌==◌, ℕ, cond, List, [], length, slice_get, unwrap_or, Option, Some, None, Contains}
use Rattle.std.specs.BTreeMap.{get}
use Rattle.std.specs.Map.{keys_of}
use Rattle.lalrpop_base.specs.Words.{Bits}
use Rattle.lalrpop_lanes.specs.Words.{IsUnion, MeetInUnion}
use Rattle.lalrpop_states.specs.declared.lr1_core.state.StateIndex.{StateIndex}
use Rattle.lalrpop_lanes.specs.lane_tables.LaneRows.{Rows}
use Rattle.lalrpop_state_graph.specs.graphs.StateGraph.{state_cmp}
use Rattle.lalrpop_lane_states.specs.declared.lane_table.construct.merge.context_sets.ContextSets.{ContextSets}
use Rattle.lalrpop_lane_states.specs.declared.lane_table.construct.state_set.StateSet.{StateSet}

-- the set of a state
abbrev pub set_of : ContextSets → StateIndex → Option StateSet
set_of sets state = get state_cmp sets.state_sets state

-- the columns of a set, and no columns if there is no such set
abbrev pub columns_of : List (List Bits) → Option StateSet → List Bits
columns_of contexts None = []
columns_of contexts (Some set) = unwrap_or (slice_get contexts set.index) []

-- the columns of the set of a state
abbrev pub context_of : ContextSets → StateIndex → List Bits
context_of sets state = columns_of sets.contexts.items (set_of sets state)

-- the state has a set
pub record HasSet (sets : ContextSets) (state : StateIndex) : Type 0 where
  pub set : StateSet
  pub is : set_of sets state ≡ Some set
  pub listed : set.index < length sets.contexts.items

-- the columns of each set were those of an old set, or are such columns
abbrev pub HaveColumns : (List Bits → Type 0) → ContextSets → ContextSets → Type 0
HaveColumns P old new = (k : ℕ) (columns : List Bits) → slice_get new.contexts.items k ≡ Some columns → (slice_get old.contexts.items k ≡ Some columns) ⊎ P columns

-- the columns are the union of two context sets, whose tokens do not meet
abbrev pub IsJoint : List Bits → List Bits → List Bits → Type 0
IsJoint a b columns = IsUnion a b columns × ¬ MeetInUnion a b

-- the sets of two states are one, with the tokens of both; states that were in one set still are
pub record AreJoined (source target : StateIndex) (old new : ContextSets) : Type 0 where
  pub counted : length new.contexts.items ≡ length old.contexts.items
  pub same : set_of new source ≡ set_of new target
  pub kept : (n m : StateIndex) → set_of old n ≡ set_of old m → set_of new n ≡ set_of new m
  pub has : (n : StateIndex) → HasSet old n → HasSet new n
  pub columns : HaveColumns (IsJoint (context_of old source) (context_of old target)) old new

-- a state has a set of its own, with these columns; the sets of other states stay
pub record IsMade (state : StateIndex) (context : List Bits) (old new : ContextSets) : Type 0 where
  pub has : HasSet new state
  pub own : context_of new state ≡ context
  pub others : (n : StateIndex) → (n ≡ state → ⊥) → set_of new n ≡ set_of old n

-- each set has columns that an old one had, or these columns
pub record AddsColumns (context : List Bits) (old new : ContextSets) : Type 0 where
  pub counted : length old.contexts.items ≤ length new.contexts.items
  pub columns : HaveColumns (λ columns. columns ≡ context) old new

-- the new set in the place of the old one, and any other set itself
abbrev pub replaced_set : StateSet → StateSet → StateSet → StateSet
replaced_set old new set = cond (set.index == old.index) new set

abbrev pub replaced_entry : StateSet → StateSet → StateIndex × StateSet → StateIndex × StateSet
replaced_entry old new entry = (entry.0, replaced_set old new entry.1)

-- each state with a row has a set, and each set has the columns of a row
pub record OwnSets (rows : Rows) (sets : ContextSets) : Type 0 where
  pub has : (state : StateIndex) → Contains (keys_of rows) state → HasSet sets state
  pub columns : (k : ℕ) (columns : List Bits) → slice_get sets.contexts.items k ≡ Some columns → (state : StateIndex) × Contains rows (state, columns)

-- A walk along the successors of a lane table, with the joins that are still to be made.
use Rattle.std.specs.Prelude.{◌≡◌, ◌≤◌, ◌⊎◌, ◌+◌, ◌*◌, ℕ, List, length, map, slice_get, Some, Contains}
use Rattle.lalrpop_states.specs.declared.lr1_core.state.StateIndex.{StateIndex}
use Rattle.lalrpop_lanes.specs.lane_tables.LaneTables.{IsSuccessor}
use Rattle.lalrpop_lane_states.specs.merges.Merges.{Advances, IsJoinedCopy, IsRedirected, IsVisited, HasOriginalRow, OriginalLeadsTo, unvisited}
use Rattle.lalrpop_state_graph.specs.graphs.Copies.{index}
use Rattle.lalrpop_lane_states.specs.declared.lane_table.construct.merge.Merge.{Merge}
use Rattle.lalrpop_lane_states.specs.declared.lane_table.construct.merge.walk.Join.{Join}

-- the join of a state to a successor
abbrev pub join_to : StateIndex → StateIndex → Join
join_to state successor = record { state = state; successor = successor }

-- the joins of a state to successors
abbrev pub joins_to : StateIndex → List StateIndex → List Join
joins_to state successors = map (join_to state) successors

-- the state of a join is a state of the list and a copy of a state with a row, and the table leads
-- from its original to the successor
pub record IsJoin (merge : Merge) (join : Join) : Type 0 where
  pub walked : HasOriginalRow merge join.state
  pub leads : OriginalLeadsTo merge join.state join.successor

-- the join was made: the state was joined to a copy of the successor, and the walk went on from
-- this copy. No edge of the state leads to the successor in the place of the copy
abbrev pub IsJoinMade : Merge → Join → Type 0
IsJoinMade merge join = (copy : StateIndex) × IsJoinedCopy join.state join.successor copy merge × IsVisited merge copy.0 × IsRedirected merge join.state join.successor copy

-- for each successor of the state's original, the join of the state to it was made, or is pending
pub record HasJoinedBut (pending : List Join) (merge : Merge) (n : ℕ) : Type 0 where
  pub original : ℕ
  pub there : slice_get merge.originals.items n ≡ Some original
  pub joined : (right : StateIndex) → IsSuccessor merge.table.now (index original) right → Contains pending (join_to (index n) right) ⊎ IsJoinMade merge (join_to (index n) right)

-- a walk has come so far: the pending joins can be made, and each state that it visited was joined
-- to its successors, up to pending joins
pub record IsMergeWalk (old new : Merge) (pending : List Join) : Type 0 where
  pub advances : Advances old new
  pub fewer : unvisited new ≤ unvisited old
  pub joins : (join : Join) → Contains pending join → IsJoin new join
  pub joined : (n : ℕ) → IsVisited new n → IsVisited old n ⊎ HasJoinedBut pending new n

-- a walk came to a state: the state is marked, all joins that were pending are still pending, and
-- if the mark is new, so are the state's joins
pub record ComesTo (state : StateIndex) (old new : Merge) (before after : List Join) : Type 0 where
  pub there : IsVisited new state.0
  pub joined : (n : ℕ) → IsVisited new n → IsVisited old n ⊎ HasJoinedBut after new n
  pub kept : (join : Join) → Contains before join → Contains after join
  pub added : (join : Join) → Contains after join → Contains before join ⊎ IsJoin new join

-- an upper bound of the joins that are still made: the pending ones, and for each state still to be
-- visited or made as many as there may be states
abbrev pub most_joins : Merge → List Join → ℕ
most_joins merge pending = unvisited merge * (merge.copies_left + length merge.states.items) + length pending

-- States of a lane table that are joined into sets whose tokens agree, and copies of those whose
-- tokens do not (Pager 1977, "A practical general method for constructing LR(k) parsers").
use Rattle.std.specs.Prelude.{◌≡◌, ◌≤◌, ◌<◌, ◌+◌, ◌⊎◌, ◌==◌, ◌++◌, ◌∷◌, ℕ, cond, Bool, true, false, List, [], length, slice_get, Option, None, Some, Contains}
use Rattle.std.specs.Borrow.{Bor}
use Rattle.lalrpop_base.specs.Words.{Bits, has, retargeted_all}
use Rattle.lalrpop_lanes.specs.Words.{AreAmong, AreDisjoint, HasAt, IsApplied, MeetInUnion}
use Rattle.lalrpop_states.specs.declared.lr1_core.state.Action.{Action}
use Rattle.lalrpop_states.specs.declared.lr1_core.state.State.{State}
use Rattle.lalrpop_states.specs.declared.lr1_core.state.StateIndex.{StateIndex}
use Rattle.lalrpop_grammar.specs.declared.repr.Production.{Production}
use Rattle.lalrpop_lanes.specs.lane_tables.LaneTables.{ColumnsOverlap, HasBit, HasRow, InColumn, IsRow, IsSuccessor, RowOverlaps}
use Rattle.lalrpop_lane_states.specs.merges.StateSets.{HasSet, context_of, set_of}
use Rattle.lalrpop_lane_states.specs.declared.lane_table.construct.merge.Merge.{Merge}
use Rattle.lalrpop_lane_states.specs.declared.lane_table.construct.merge.MergeError.{MergeError}
use Rattle.lalrpop_lane_states.specs.declared.lane_table.construct.merge.MergeError.TheVariants.{Apart, CopyLimit, Memory}
use Rattle.lalrpop_lanes.specs.declared.lane_table.table.LaneTable.{LaneTable}
use Rattle.lalrpop_state_graph.specs.graphs.Copies.{AreCopies, index}

-- the new number in the place of the old one, and any other number itself
abbrev pub replaced_number : ℕ → ℕ → ℕ → ℕ
replaced_number old new n = cond (n == old) new n

-- ---- tokens of sets
-- there are as many columns as the table has, no two of them share a token, and each token is in
-- the same column of the table
pub record IsContext (table : LaneTable) (columns : List Bits) : Type 0 where
  pub counted : length columns ≡ table.conflicts
  pub disjoint : AreDisjoint columns
  pub tokens : (k bit : ℕ) → HasAt columns k bit → InColumn table k bit

-- ---- the merging
-- a merge is consistent: the states are copies of those that were handed in. Each state with a row
-- is its own original, and each successor has a row. In no row do two columns share a token, and in
-- no set either. Each copy of a state with a row has a set. Each state before the first copy is its
-- own original
pub record IsMerging (merge : Merge) : Type 0 where
  pub handed : List (State Bits)
  pub copies : AreCopies false handed merge.originals.items merge.states.items
  pub visited : length merge.states.items ≤ length merge.visited.items
  pub rows : (s : StateIndex) → HasRow merge.table.now s → slice_get merge.originals.items s.0 ≡ Some s.0
  pub closed : (left right : StateIndex) → IsSuccessor merge.table.now left right → HasRow merge.table.now right
  pub apart : (s : StateIndex) → HasRow merge.table.now s → ¬ RowOverlaps merge.table.now s
  pub contexts : (k : ℕ) (columns : List Bits) → slice_get merge.context_sets.contexts.items k ≡ Some columns → IsContext merge.table.now columns
  pub sets : (n o : ℕ) → slice_get merge.originals.items n ≡ Some o → HasRow merge.table.now (index o) → HasSet merge.context_sets (index n)
  pub start : HasRow merge.table.now merge.inconsistent_state
  pub first : (n : ℕ) → n < merge.first_copy → slice_get merge.originals.items n ≡ Some n

-- the state is a state of the list, and a copy of a state with a row
pub record HasOriginalRow (merge : Merge) (state : StateIndex) : Type 0 where
  pub original : ℕ
  pub there : slice_get merge.originals.items state.0 ≡ Some original
  pub row : HasRow merge.table.now (index original)

-- the state was visited by a walk
abbrev pub IsVisited : Merge → ℕ → Type 0
IsVisited merge n = slice_get merge.visited.items n ≡ Some true

-- no state is newly visited
abbrev pub HaveNoNewMarks : Merge → Merge → Type 0
HaveNoNewMarks old new = (n : ℕ) → IsVisited new n → IsVisited old n

-- one of the edges leads to the state with the number m
abbrev pub HasTarget : {K : Type 0} → List (K × StateIndex) → ℕ → Type 0
HasTarget {K} entries m = (k : ℕ) × (entry : K × StateIndex) × (slice_get entries k ≡ Some entry) × (entry.1.0 ≡ m)

-- a shift or a goto of the state n leads to the state m
abbrev pub HasEdge : List (State Bits) → ℕ → ℕ → Type 0
HasEdge states n m = (state : State Bits) × (slice_get states n ≡ Some state) × (HasTarget state.shifts.entries m ⊎ HasTarget state.gotos.entries m)

-- a call changes this alone: it makes copies, each of which lowers the number of copies left, joins
-- sets, sets marks, and leads edges away from states that are their own originals
pub record Advances (old new : Merge) : Type 0 where
  pub ready : IsMerging new
  pub table : new.table ≡ old.table
  pub start : new.inconsistent_state ≡ old.inconsistent_state
  pub longer : length old.states.items ≤ length new.states.items
  pub counted : new.copies_left + length new.states.items ≡ old.copies_left + length old.states.items
  pub originals : (n o : ℕ) → slice_get old.originals.items n ≡ Some o → slice_get new.originals.items n ≡ Some o
  pub copies : (exact : Bool) (handed : List (State Bits)) → AreCopies exact handed old.originals.items old.states.items → AreCopies exact handed new.originals.items new.states.items
  pub sets : (n m : ℕ) → n < length old.states.items → m < length old.states.items → set_of old.context_sets (index n) ≡ set_of old.context_sets (index m) → set_of new.context_sets (index n) ≡ set_of new.context_sets (index m)
  pub marks : (n : ℕ) → IsVisited old n → IsVisited new n
  pub edges : (n m : ℕ) → n < length old.states.items → slice_get old.originals.items m ≡ Some m → HasEdge new.states.items n m → HasEdge old.states.items n m

-- the number of marks that are not set
abbrev pub unset : List Bool → ℕ
unset [] = 0
unset (true ∷ marks) = unset marks
unset (false ∷ marks) = 1 + unset marks

-- the number of states that are still to be visited, or to be made
abbrev pub unvisited : Merge → ℕ
unvisited merge = unset merge.visited.items + merge.copies_left

-- the sets of two states are one; or their tokens meet, two columns of the table share a token, and
-- nothing changed
abbrev pub AreUnited : Bool → StateIndex → StateIndex → Merge → Merge → Type 0
AreUnited true source target old new = set_of new.context_sets source ≡ set_of new.context_sets target
AreUnited false source target old new = MeetInUnion (context_of old.context_sets source) (context_of old.context_sets target) × ColumnsOverlap old.table.now × (new ≡ old)

-- a state is a copy of the successor, and is in one set with the first state
pub record IsJoinedCopy (state successor copy : StateIndex) (merge : Merge) : Type 0 where
  pub original : slice_get merge.originals.items copy.0 ≡ Some successor.0
  pub together : set_of merge.context_sets state ≡ set_of merge.context_sets copy

-- no edge of the state leads to the successor, unless the state was joined to the successor itself
abbrev pub IsRedirected : Merge → StateIndex → StateIndex → StateIndex → Type 0
IsRedirected merge state successor copy = (copy ≡ successor → ⊥) → ¬ HasEdge merge.states.items state.0 successor.0

-- for each successor of its original, the state was joined to a copy of the successor. This copy
-- was visited, and no edge of the state leads to the successor in its place
pub record HasJoined (merge : Merge) (n : ℕ) : Type 0 where
  pub original : ℕ
  pub there : slice_get merge.originals.items n ≡ Some original
  pub joined : (right : StateIndex) → IsSuccessor merge.table.now (index original) right → (copy : StateIndex) × IsJoinedCopy (index n) right copy merge × IsVisited merge copy.0 × IsRedirected merge (index n) right copy

-- the state was visited, and each newly visited state was joined to its successors
pub record HasWalked (state : StateIndex) (old new : Merge) : Type 0 where
  pub there : IsVisited new state.0
  pub joined : (n : ℕ) → IsVisited new n → IsVisited old n ⊎ HasJoined new n

-- each of the states was visited, and each newly visited state was joined to its successors
pub record HaveWalked (states : List StateIndex) (old new : Merge) : Type 0 where
  pub there : (state : StateIndex) → Contains states state → IsVisited new state.0
  pub joined : (n : ℕ) → IsVisited new n → IsVisited old n ⊎ HasJoined new n

-- the targets of one state with the old number have the new number; all other states stay
pub record IsRelinked (n old new : ℕ) (before after : List (State Bits)) : Type 0 where
  pub source : State Bits
  pub target : State Bits
  pub was : slice_get before n ≡ Some source
  pub is : slice_get after n ≡ Some target
  pub others : (k : ℕ) → (k ≡ n → ⊥) → slice_get after k ≡ slice_get before k
  pub shifts : target.shifts.entries ≡ retargeted_all (replaced_number old new) source.shifts.entries
  pub gotos : target.gotos.entries ≡ retargeted_all (replaced_number old new) source.gotos.entries

-- the edges of the state that led to the successor lead to the copy, its other edges lead where
-- they led, and each other state stays
pub record IsLinked (state successor copy : ℕ) (before after : List (State Bits)) : Type 0 where
  pub source : State Bits
  pub target : State Bits
  pub was : slice_get before state ≡ Some source
  pub is : slice_get after state ≡ Some target
  pub others : (k : ℕ) (other : State Bits) → (k ≡ state → ⊥) → slice_get before k ≡ Some other → slice_get after k ≡ Some other
  pub shifts : target.shifts.entries ≡ retargeted_all (replaced_number successor copy) source.shifts.entries
  pub gotos : target.gotos.entries ≡ retargeted_all (replaced_number successor copy) source.gotos.entries

-- each state stays, and there may be others after them
abbrev pub KeepsStates : Merge → Merge → Type 0
KeepsStates old new = (n : ℕ) (state : State Bits) → slice_get old.states.items n ≡ Some state → slice_get new.states.items n ≡ Some state

-- if the state n is a copy of the successor, and not the successor itself, the tokens of the sets
-- of the first state and of n meet
abbrev pub CannotJoin : Merge → StateIndex → StateIndex → ℕ → Type 0
CannotJoin merge state successor n = slice_get merge.originals.items n ≡ Some successor.0 → (n ≡ successor.0 → ⊥) → MeetInUnion (context_of merge.context_sets state) (context_of merge.context_sets (index n))

-- if no copy was found, no copy of the successor can be joined, and nothing changed
abbrev pub IsApartIfNone : StateIndex → StateIndex → Merge → Merge → Option StateIndex → Type 0
IsApartIfNone state successor old new None = ((n : ℕ) → CannotJoin old state successor n) × (new ≡ old)
IsApartIfNone state successor old new (Some copy) = Unit {0}

-- no copy was found, or the state was joined to the one that was found
abbrev pub IsJoinedIfAny : StateIndex → StateIndex → Merge → Option StateIndex → Type 0
IsJoinedIfAny state successor merge None = Unit {0}
IsJoinedIfAny state successor merge (Some copy) = IsJoinedCopy state successor copy merge

-- the table leads from the original of the state to the successor
abbrev pub OriginalLeadsTo : Merge → StateIndex → StateIndex → Type 0
OriginalLeadsTo merge state successor = (o : ℕ) → slice_get merge.originals.items state.0 ≡ Some o → IsSuccessor merge.table.now (index o) successor

-- the right state is a successor of the left one, and a token of its row is in another column of
-- some row
pub record IsApart (table : LaneTable) (left right : StateIndex) : Type 0 where
  pub successor : IsSuccessor table left right
  pub first : ℕ
  pub second : ℕ
  pub apart : first ≡ second → ⊥
  pub bit : ℕ
  pub here : HasBit table right first bit
  pub there : InColumn table second bit

-- why merging failed: the row of a successor has a token that is in another column of the table, or
-- no copy is left and two columns share a token
abbrev pub IsMergeError : Merge → MergeError → Type 0
IsMergeError merge (Apart left right) = IsApart merge.table.now left right
IsMergeError merge CopyLimit = (merge.copies_left ≡ 0) × ColumnsOverlap merge.table.now
IsMergeError merge Memory = Unit {0}

-- the copy limit is reported only if no copy is left
abbrev pub IsCopyLimit : Merge → MergeError → Type 0
IsCopyLimit merge (Apart left right) = Unit {0}
IsCopyLimit merge CopyLimit = merge.copies_left ≡ 0
IsCopyLimit merge Memory = Unit {0}

-- a join is refused only if no copy of the successor can be joined; an allocation failure says
-- nothing
abbrev pub IsRefusedJoin : Merge → StateIndex → StateIndex → MergeError → Type 0
IsRefusedJoin merge state successor (Apart left right) = (n : ℕ) → CannotJoin merge state successor n
IsRefusedJoin merge state successor CopyLimit = (n : ℕ) → CannotJoin merge state successor n
IsRefusedJoin merge state successor Memory = Unit {0}

-- ---- a copy
-- a copy of a state was appended, with the number of its original
pub record IsPushed (copy : State Bits) (original : ℕ) (old new : Merge) : Type 0 where
  pub table : new.table ≡ old.table
  pub start : new.inconsistent_state ≡ old.inconsistent_state
  pub sets : new.context_sets ≡ old.context_sets
  pub states : new.states.items ≡ old.states.items ++ copy ∷ []
  pub originals : new.originals.items ≡ old.originals.items ++ original ∷ []
  pub visited : new.visited.items ≡ old.visited.items ++ false ∷ []
  pub left : new.copies_left + 1 ≡ old.copies_left
  pub first : new.first_copy ≡ old.first_copy

-- no copy was made, but there may be one more mark
pub record IsLonger (old new : Merge) : Type 0 where
  pub table : new.table ≡ old.table
  pub start : new.inconsistent_state ≡ old.inconsistent_state
  pub sets : new.context_sets ≡ old.context_sets
  pub states : new.states.items ≡ old.states.items
  pub originals : new.originals.items ≡ old.originals.items
  pub visited : (new.visited.items ≡ old.visited.items) ⊎ (new.visited.items ≡ old.visited.items ++ false ∷ [])
  pub left : new.copies_left ≡ old.copies_left
  pub first : new.first_copy ≡ old.first_copy

-- the copy has the state as its original and the tokens of the state's row in its set, and as many
-- states as before are still to be visited or made
pub record IsFreshCopy (state copy : StateIndex) (old new : Merge) : Type 0 where
  pub original : slice_get new.originals.items copy.0 ≡ Some state.0
  pub row : IsRow new.table.now state (context_of new.context_sets copy)
  pub unvisited_same : unvisited new ≡ unvisited old

-- ---- resolved states
-- there is one action for each column, and the actions include the reductions of the inconsistent
-- state
pub record IsPatchable (actions : List Action) (merge : Merge) : Type 0 where
  pub counted : merge.table.now.conflicts ≡ length actions
  pub among : (state : State Bits) → slice_get merge.states.items merge.inconsistent_state.0 ≡ Some state → AreAmong actions state

-- the actions include the reductions of each copy of the inconsistent state
abbrev pub AreTargetsAmong : List Action → Merge → Type 0
AreTargetsAmong actions merge = (n : ℕ) (state : State Bits) → slice_get merge.originals.items n ≡ Some merge.inconsistent_state.0 → slice_get merge.states.items n ≡ Some state → AreAmong actions state

-- the reductions of the state with the number took columns, no two of which share a token
pub record IsTaken (actions : List Action) (columns : List Bits) (n : ℕ) (old new : List (State Bits)) : Type 0 where
  pub before : State Bits
  pub after : State Bits
  pub was : slice_get old n ≡ Some before
  pub is : slice_get new n ≡ Some after
  pub counted : length new ≡ length old
  pub others : (k : ℕ) → (k ≡ n → ⊥) → slice_get new k ≡ slice_get old k
  pub disjoint : AreDisjoint columns
  pub applied : IsApplied actions columns before after

-- no two reductions by different productions share a token
abbrev pub AreApart : List (Bits × Bor Production) → Type 0
AreApart reductions = (i j bit : ℕ) (r q : Bits × Bor Production) → slice_get reductions i ≡ Some r → slice_get reductions j ≡ Some q → has r.0 bit ≡ true → has q.0 bit ≡ true → r.1.now ≡ q.1.now

-- if the state with the number is a copy of the inconsistent state, its reductions took the columns
-- of its set
abbrev pub TookOwnColumns : List Action → Merge → Merge → ℕ → Type 0
TookOwnColumns actions old new n = (before after : State Bits) → slice_get old.originals.items n ≡ Some old.inconsistent_state.0 → slice_get old.states.items n ≡ Some before → slice_get new.states.items n ≡ Some after → IsApplied actions (context_of old.context_sets (index n)) before after

-- if the state with the number is a copy of the inconsistent state, no two of its reductions by
-- different productions share a token
abbrev pub IsResolvedCopy : Merge → ℕ → Type 0
IsResolvedCopy merge n = (state : State Bits) → slice_get merge.originals.items n ≡ Some merge.inconsistent_state.0 → slice_get merge.states.items n ≡ Some state → AreApart state.reductions.items

-- Lane tables of a grammar (Pager 1977): its LR(0) states, whose reductions hold the tokens that
-- are found by tracing back over the states.
use Rattle.std.specs.Prelude.{◌≡◌, ◌≤◌, ◌<◌, ◌↔◌, ℕ, true, List, length, map, slice_get, Some, Contains}
use Rattle.std.specs.Borrow.{Bor}
use Rattle.lalrpop_base.specs.Words.{Bits, has, AreClosed, AreChecked, AreCoherent, contents, Dotted, AreLr0, IsLaneToken, HoldLaneTokens, Contents}
use Rattle.lalrpop_base.specs.Words.{ReducesFinished, AreFaithful, IsBitOf, IsLALR1, Rules, IsWellFormed}
use Rattle.lalrpop_construction.specs.Words.{lr0_of}
use Rattle.lalrpop_lanes.specs.Words.{AreDisjoint, IsApplied}
use Rattle.lalrpop_construction.specs.Words.{AreLr0States}
use Rattle.lalrpop_base.specs.Words.{AreAllConflictFree}
use Rattle.lalrpop_states.specs.contracts.lr1_core.state.ActionOrd.TheImpl as action_ord
use Rattle.lalrpop_states.specs.declared.lookahead.nil.Nil.{Nil}
use Rattle.lalrpop_grammar.specs.declared.lookahead.token.Token.{Token}
use Rattle.lalrpop_grammar.specs.declared.lookahead.token.Token.TheVariants.{Terminal as TokenOf}
use Rattle.lalrpop_states.specs.declared.lr1_core.state.Action.{Action as CodeAction}
use Rattle.lalrpop_states.specs.declared.lr1_core.state.Action.TheVariants.{Shift as CodeShift, Reduce as CodeReduce}
use Rattle.lalrpop_states.specs.declared.lr1_core.state.State.{State}
use Rattle.lalrpop_grammar.specs.declared.repr.NonterminalString.{NonterminalString}
use Rattle.lalrpop_grammar.specs.declared.repr.Production.{Production}
use Rattle.lalrpop_grammar.specs.declared.repr.TerminalString.{TerminalString}
use Rattle.lalrpop_lanes.specs.lane_tables.LaneTables.{InColumn, AreColumns}
use Rattle.lalrpop_construction.specs.states.SamePlaces.{places_in, HasSamePlace, HaveSamePlaces}
use Rattle.lalrpop_follow_sets.specs.lanes.LaneTokens.{IsResolved, LanesMeet}
use Rattle.lalrpop_lane_states.specs.declared.lane_table.construct.LaneTableConstruct.{LaneTableConstruct}
use Rattle.lalrpop_lanes.specs.declared.lane_table.table.LaneTable.{LaneTable}

-- the set has exactly the bits of the terminals and of Eof
abbrev pub IsFull : List TerminalString → Bits → Type 0
IsFull terminals set = (bit : ℕ) → (has set bit ≡ true) ↔ (bit ≤ length terminals)

-- each item of each state holds exactly the terminals and Eof
abbrev pub HaveFullItems : List TerminalString → List (State Bits) → Type 0
HaveFullItems terminals states = (n : ℕ) (state : State Bits) (item : Dotted Bits) → slice_get states n ≡ Some state → Contains state.items.vec.items item → IsFull terminals item.lookahead

-- the states are the LR(0) states of the grammar with all tokens on the items, and any tokens on
-- the reductions
pub record AreLaneStates (g : Rules) (start : NonterminalString) (states : List (State Bits)) : Type 0 where
  pub bare : List (State Nil)
  pub lr0 : AreLr0States g start bare
  pub same : HaveSamePlaces bare states
  pub items : HaveFullItems g.terminals states

-- the properties of such states that the definitions name: they are coherent, closed and LR(0),
-- there is one, and each reduces its finished items
pub record AreLr0Tables (g : Rules) (start : NonterminalString) (states : List (State Bits)) : Type 0 where
  pub coherent : AreCoherent states
  pub some : 0 < length states
  pub lr0 : AreLr0 g.productions start (contents g.terminals states)
  pub closed : AreClosed g.productions start (contents g.terminals states)
  pub reduces : (n : ℕ) → ReducesFinished (contents g.terminals states n)

-- ---- promoted states
-- each reduction of the state holds exactly the terminals and Eof
abbrev pub HoldsAll : List TerminalString → State Bits → Type 0
HoldsAll terminals state = (r : Bits × Bor Production) → Contains state.reductions.items r → IsFull terminals r.0

-- the reductions of the states from a place on hold all tokens
abbrev pub HoldAllFrom : List TerminalString → ℕ → List (State Bits) → Type 0
HoldAllFrom terminals from states = (n : ℕ) (state : State Bits) → from ≤ n → slice_get states n ≡ Some state → HoldsAll terminals state

-- an item with the tokens, and below, a reduction with the tokens
abbrev pub promoted_item : Bits → Dotted Nil → Dotted Bits
promoted_item all item = record { production = item.production; index = item.index; lookahead = all }

abbrev pub promoted_reduction : Bits → Nil × Bor Production → Bits × Bor Production
promoted_reduction all r = (all, r.1)

-- the new state is the old one with the set as the lookahead of each item and of each reduction
pub record IsPromoted (all : Bits) (old : State Nil) (new : State Bits) : Type 0 where
  pub index : new.index ≡ old.index
  pub items : new.items.vec.items ≡ map (promoted_item all) old.items.vec.items
  pub shifts : new.shifts ≡ old.shifts
  pub gotos : new.gotos ≡ old.gotos
  pub reductions : new.reductions.items ≡ map (promoted_reduction all) old.reductions.items

-- ---- traced actions
module _ (g : Rules) (start : NonterminalString) (places : ℕ → Contents) (s : ℕ) where
  -- the token is one of an action of the state: of a shift its terminal, of a reduction its lane
  -- tokens
  abbrev pub IsTokenOf : CodeAction → Token → Type 0
  IsTokenOf (CodeShift t target) token = token ≡ TokenOf t
  IsTokenOf (CodeReduce p) token = IsLaneToken g.productions start places s p.now (length p.now.symbols) token

  -- the bit is that of a token of the action
  pub record HasActionBit (action : CodeAction) (bit : ℕ) : Type 0 where
    pub token : Token
    pub number : IsBitOf g.terminals token bit
    pub of : IsTokenOf action token

  -- the bit is that of a token of the action at the place
  pub record IsBitAt (actions : List CodeAction) (place bit : ℕ) : Type 0 where
    pub action : CodeAction
    pub there : slice_get actions place ≡ Some action
    pub of : HasActionBit action bit

  -- each column of the table has exactly the bits of the action at its place
  abbrev pub AreTraced : List CodeAction → LaneTable → Type 0
  AreTraced actions table = (k bit : ℕ) → InColumn table k bit ↔ IsBitAt actions k bit

-- the new state at the place is resolved, by the lanes over the states
abbrev pub IsResolvedAt : Rules → NonterminalString → List (State Bits) → ℕ → List (State Bits) → Type 0
IsResolvedAt g start states n new = (state : State Bits) → slice_get new n ≡ Some state → IsResolved g start (places_in states) n state

-- ---- results
-- the states are LR(0) states whose reductions hold exactly their lane tokens, and none has a
-- conflict
pub record AreLaneTables (g : Rules) (start : NonterminalString) (states : List (State Bits)) : Type 0 where
  pub made : AreLaneStates g start states
  pub holds : HoldLaneTokens g.productions start (contents g.terminals states)
  pub free : AreAllConflictFree g.terminals states

-- one of the states has two actions that share a token; the states before it are resolved, and the
-- reductions of this state and of those after it hold all tokens
pub record HaveMeetingLanes (g : Rules) (start : NonterminalString) (states : List (State Bits)) : Type 0 where
  pub number : ℕ
  pub listed : number < length states
  pub meet : LanesMeet g.productions start (contents g.terminals states) number
  pub before : (n : ℕ) → n < number → IsResolvedAt g start states n states
  pub from : HoldAllFrom g.terminals number states

-- the tables are those of an LALR(1) grammar: its LR(0) states with their lane tokens, which pass
-- the check and are faithful
pub record AreLalrLaneTables (g : Rules) (start : NonterminalString) (tables : List (State Bits)) : Type 0 where
  pub lanes : AreLaneTables g start tables
  pub shape : AreLr0Tables g start tables
  pub lalr : IsLALR1 g.productions start
  pub checked : AreChecked g.productions start (contents g.terminals tables)
  pub faithful : AreFaithful g.productions start (contents g.terminals tables)

-- ---- the construction
-- the construction is ready: its grammar is well-formed, and its LR(0) states are those of the
-- grammar and the start symbol
pub record IsReadyToConstruct (construct : LaneTableConstruct) : Type 0 where
  pub well_formed : IsWellFormed construct.grammar.now
  pub over : construct.lr.construction ≡ lr0_of construct.grammar.now construct.start

-- no two columns of the table share a token, and the state's reductions took the columns
pub record IsAttempted (actions : List CodeAction) (table : LaneTable) (old new : State Bits) : Type 0 where
  pub columns : List Bits
  pub of : AreColumns table columns
  pub disjoint : AreDisjoint columns
  pub applied : IsApplied actions columns old new

-- the state at the index became another one with the same place and the same items, and no other
-- state changed
pub record IsStateStep (index : ℕ) (old new : List (State Bits)) : Type 0 where
  pub before : State Bits
  pub after : State Bits
  pub was : slice_get old index ≡ Some before
  pub is : slice_get new index ≡ Some after
  pub counted : length new ≡ length old
  pub others : (k : ℕ) → (k ≡ index → ⊥) → slice_get new k ≡ slice_get old k
  pub same : HasSamePlace before after
  pub items : after.items ≡ before.items

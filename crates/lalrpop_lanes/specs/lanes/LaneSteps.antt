-- The steps of a trace: their additions to a lane table, and to the places that the trace visits.
use Rattle.std.specs.Prelude.{◌≡◌, ◌⊎◌, ◌+◌, ◌↔◌, ◌<◌, ℕ, suc, Bool, true, List, ◌∷◌, drop, length, slice_get, Some, Contains}
use Rattle.lalrpop_base.specs.Words.{IsFirst, IsNullable, Dotted, LeadsBack, IsTracedTo, Contents, IsBehindDot, leads, IsBitOf, Rules, IsWellFormed, productions}
use Rattle.lalrpop_base.specs.Words.{rules_of, at_place, Visits}
use Rattle.lalrpop_grammar.specs.lanes.Lanes.{Gives}
use Rattle.lalrpop_grammar.specs.declared.lookahead.token.Token.{Token}
use Rattle.lalrpop_states.specs.declared.lr1_core.state.StateIndex.{StateIndex}
use Rattle.lalrpop_grammar.specs.declared.repr.NonterminalString.{NonterminalString}
use Rattle.lalrpop_grammar.specs.declared.repr.Symbol.{Symbol}
use Rattle.lalrpop_grammar.specs.declared.repr.Symbol.TheVariants.{Nonterminal}
use Rattle.lalrpop_grammar.specs.declared.repr.TerminalString.{TerminalString}
use Rattle.lalrpop_lanes.specs.lane_tables.LaneTables.{HasCell, HasBit, IsSuccessor, KeepsAll}
use Rattle.lalrpop_lanes.specs.lanes.LaneTraces.{HaveOwnItems}
use Rattle.lalrpop_construction.specs.states.SamePlaces.{places_in}
use Rattle.lalrpop_state_graph.specs.graphs.StateGraph.{edges, IsGraphOf}
use Rattle.lalrpop_lanes.specs.declared.lane_table.lane.automaton.Automaton.{Automaton}
use Rattle.lalrpop_collections.specs.declared.collections.walk.Walk.{Walk}
use Rattle.lalrpop_lanes.specs.declared.lane_table.table.LaneTable.{LaneTable}
use Rattle.lalrpop_states.specs.declared.lr1_core.place.Place.{Place}

-- the grammar is well-formed, the items are of its productions, and the FIRST sets and the graph
-- are those of the grammar and the states
pub record IsAutomaton {L : Type 0} (automaton : Automaton L) : Type 0 where
  pub well_formed : IsWellFormed automaton.grammar.now
  pub own : HaveOwnItems (productions automaton.grammar.now) automaton.states.now
  pub firsts : automaton.first_sets.now ≡ rules_of automaton.grammar.now
  pub graph : IsGraphOf (edges automaton.states.now) automaton.state_graph.now

-- a table got exactly such cells and tokens in one column, and exactly such successors, by the
-- numbers of the states, and kept its old ones
pub record Gains (k : ℕ) (Cell : ℕ → Type 0) (Bit Successor : ℕ → ℕ → Type 0) (old new : LaneTable) : Type 0 where
  pub columns : new.conflicts ≡ old.conflicts
  pub cells : (row : StateIndex) (j : ℕ) → HasCell new row j ↔ (HasCell old row j ⊎ ((j ≡ k) × Cell row.0))
  pub tokens : (row : StateIndex) (j bit : ℕ) → HasBit new row j bit ↔ (HasBit old row j bit ⊎ ((j ≡ k) × Bit row.0 bit))
  pub successors : (left right : StateIndex) → IsSuccessor new left right ↔ (IsSuccessor old left right ⊎ Successor left.0 right.0)

-- a table kept its old cells, tokens and successors, and got some of such cells and tokens in one
-- column, and some of such successors, by the numbers of the states, and no others
pub record GainsSome (k : ℕ) (Cell : ℕ → Type 0) (Bit Successor : ℕ → ℕ → Type 0) (old new : LaneTable) : Type 0 where
  pub kept : KeepsAll old new
  pub cells : (row : StateIndex) (j : ℕ) → HasCell new row j → HasCell old row j ⊎ ((j ≡ k) × Cell row.0)
  pub tokens : (row : StateIndex) (j bit : ℕ) → HasBit new row j bit → HasBit old row j bit ⊎ ((j ≡ k) × Bit row.0 bit)
  pub successors : (left right : StateIndex) → IsSuccessor new left right → IsSuccessor old left right ⊎ Successor left.0 right.0

-- in no row
abbrev pub Nowhere : ℕ → Type 0
Nowhere row = ⊥

-- no bit in any row, or no pair of states
abbrev pub Nothing : ℕ → ℕ → Type 0
Nothing row bit = ⊥

-- the pair of these two
pub record IsPair (a b row bit : ℕ) : Type 0 where
  pub left : a ≡ row
  pub right : b ≡ bit

-- the fact holds, in the row of the state
pub record IsHere (state : ℕ) (Fact : Type 0) (row : ℕ) : Type 0 where
  pub here : state ≡ row
  pub fact : Fact

-- in the row of the state, the nonterminal is the start symbol
abbrev pub IsEnd : NonterminalString → NonterminalString → ℕ → ℕ → Type 0
IsEnd start name state = IsHere state (name ≡ start)

-- in the row of the state, the nonterminal is the start symbol, and the bit is that of Eof
abbrev pub IsEndBit : Rules → NonterminalString → NonterminalString → ℕ → ℕ → ℕ → Type 0
IsEndBit g start name state row bit = IsHere state ((name ≡ start) × (bit ≡ length g.terminals)) row

-- ---- an item with the nonterminal after its dot
-- the nonterminal is after the item's dot
abbrev pub IsParent : {L : Type 0} → NonterminalString → Dotted L → Type 0
IsParent name item = slice_get item.production.symbols item.index ≡ Some (Nonterminal name)

-- the symbols after the one after the item's dot
abbrev pub symbols_after_next : {L : Type 0} → Dotted L → List Symbol
symbols_after_next item = drop (item.index + 1) item.production.symbols

-- the place is that of an item in a state, and the condition is true
pub record IsPlaceIf {L : Type 0} (go : Bool) (state : ℕ) (item : Dotted L) (k : Place) : Type 0 where
  pub so : go ≡ true
  pub is : at_place state item.production item.index ≡ k

module _ (g : Rules) {L : Type 0} (name : NonterminalString) where
  -- the bit is that of a terminal which can follow the nonterminal in the item
  pub record IsFollowBit (item : Dotted L) (bit : ℕ) : Type 0 where
    pub parent : IsParent name item
    pub terminal : TerminalString
    pub number : slice_get g.terminals bit ≡ Some terminal
    pub first : IsFirst g.productions (symbols_after_next item) terminal

  -- the nonterminal is after the item's dot, the symbols after it are nullable, and the place is
  -- that of the item in the state
  pub record IsPassedOn (state : ℕ) (item : Dotted L) (k : Place) : Type 0 where
    pub parent : IsParent name item
    pub nullable : IsNullable g.productions (symbols_after_next item)
    pub is : at_place state item.production item.index ≡ k

-- one of the items is of this kind
abbrev pub Some_of : {X : Type 0} → (X → Type 0) → List X → Type 0
Some_of {X} P items = (item : X) × Contains items item × P item

-- ---- the contribution of a place: a cell, tokens and successors
module _ (g : Rules) (start : NonterminalString) (states : ℕ → Contents) (place : Place) where
  -- the row in which a place gives a cell, which may be empty: the row of its own state, if its dot
  -- is at the start and its nonterminal is the start symbol or is after a dot in the state
  pub record GivesCell (row : ℕ) : Type 0 where
    pub here : place.state ≡ row
    pub begun : place.item.index ≡ 0
    pub given : (place.item.production.nonterminal ≡ start) ⊎ IsBehindDot (states row) (Nonterminal place.item.production.nonterminal)

  -- the bits of the tokens that a place gives in its row
  pub record GivesBit (row bit : ℕ) : Type 0 where
    pub here : place.state ≡ row
    pub token : Token
    pub number : IsBitOf g.terminals token bit
    pub gives : Gives g.productions start states row place.item.production place.item.index token

  -- the two states of a step back from a place over an edge
  pub record GivesSuccessor (left right : ℕ) : Type 0 where
    pub here : place.state ≡ right
    pub index : ℕ
    pub moved : place.item.index ≡ suc index
    pub symbol : Symbol
    pub after : List Symbol
    pub edge : leads (states left) symbol ≡ Some right
    pub behind : drop index place.item.production.symbols ≡ symbol ∷ after

  -- the places to which a place leads back
  abbrev pub LeadsBackTo : Place → Type 0
  LeadsBackTo k = LeadsBack g.productions states place.state place.item.production place.item.index k.state k.item.production k.item.index

-- ---- the contribution of a place, over the data of a trace
module _ {L : Type 0} (automaton : Automaton L) (place : Place) where
  -- the table got exactly the contribution of the place, in one column
  abbrev pub GainsOf : ℕ → LaneTable → LaneTable → Type 0
  GainsOf k = Gains k (GivesCell (rules_of automaton.grammar.now) automaton.start.now (places_in automaton.states.now) place) (GivesBit (rules_of automaton.grammar.now) automaton.start.now (places_in automaton.states.now) place) (GivesSuccessor (rules_of automaton.grammar.now) automaton.start.now (places_in automaton.states.now) place)

  -- the table got a part of the contribution of the place, in one column
  abbrev pub GainsSomeOf : ℕ → LaneTable → LaneTable → Type 0
  GainsSomeOf k = GainsSome k (GivesCell (rules_of automaton.grammar.now) automaton.start.now (places_in automaton.states.now) place) (GivesBit (rules_of automaton.grammar.now) automaton.start.now (places_in automaton.states.now) place) (GivesSuccessor (rules_of automaton.grammar.now) automaton.start.now (places_in automaton.states.now) place)

  -- the walk visited all places to which the place leads back
  abbrev pub VisitsOf : Walk Place → Walk Place → Type 0
  VisitsOf = Visits (LeadsBackTo (rules_of automaton.grammar.now) automaton.start.now (places_in automaton.states.now) place)

  -- the place adds nothing more: the table has its contribution, in one column, and the walk has
  -- visited all places to which it leads back
  pub record AddsNothing (k : ℕ) (table : LaneTable) (walk : Walk Place) : Type 0 where
    pub gains : GainsOf k table table
    pub visits : VisitsOf walk walk

-- each place adds nothing more if its dot is at the start and these pairs contain its state and its
-- nonterminal
abbrev pub AreExpanded : {L : Type 0} → Automaton L → ℕ → LaneTable → Walk Place → List (ℕ × NonterminalString) → Type 0
AreExpanded automaton k table walk expanded = (place : Place) → place.item.index ≡ 0 → Contains expanded (place.state, place.item.production.nonterminal) → AddsNothing automaton place k table walk

-- ---- the contributions of all places to which a place leads back, itself among them
module _ {L : Type 0} (automaton : Automaton L) (first : Place) where
  abbrev pub IsTracedFrom : Place → Type 0
  IsTracedFrom p = IsTracedTo (productions automaton.grammar.now) (places_in automaton.states.now) first.state first.item.production first.item.index p.state p.item.production p.item.index

  -- one of these places is of this kind
  abbrev pub TracesTo : (Place → Type 0) → Type 0
  TracesTo P = (p : Place) × IsTracedFrom p × P p

  abbrev pub GainsAll : ℕ → LaneTable → LaneTable → Type 0
  GainsAll k = Gains k (λ row. TracesTo (λ p. GivesCell (rules_of automaton.grammar.now) automaton.start.now (places_in automaton.states.now) p row)) (λ row bit. TracesTo (λ p. GivesBit (rules_of automaton.grammar.now) automaton.start.now (places_in automaton.states.now) p row bit)) (λ l r. TracesTo (λ p. GivesSuccessor (rules_of automaton.grammar.now) automaton.start.now (places_in automaton.states.now) p l r))

  -- the table got a part of these contributions, in one column
  abbrev pub GainsSomeOfAll : ℕ → LaneTable → LaneTable → Type 0
  GainsSomeOfAll k = GainsSome k (λ row. TracesTo (λ p. GivesCell (rules_of automaton.grammar.now) automaton.start.now (places_in automaton.states.now) p row)) (λ row bit. TracesTo (λ p. GivesBit (rules_of automaton.grammar.now) automaton.start.now (places_in automaton.states.now) p row bit)) (λ l r. TracesTo (λ p. GivesSuccessor (rules_of automaton.grammar.now) automaton.start.now (places_in automaton.states.now) p l r))

  -- the place is the end of a production of the grammar, in a state of the list
  pub record IsEndPlace : Type 0 where
    pub own : Contains (productions automaton.grammar.now) first.item.production
    pub end : first.item.index ≡ length first.item.production.symbols
    pub listed : first.state < length automaton.states.now

-- Backtraces: the nonterminals that are met on the way back from an item, and the edges that the
-- items on the way give.
use Rattle.std.specs.Prelude.{◌≡◌, ◌↔◌, ℕ, ◌+◌, List, take, drop, slice_get, Some, Contains}
use Rattle.lalrpop_base.specs.Words.{Bits, IsNullable, Dotted, Rules, HasKnownTerminals}
use Rattle.lalrpop_states.specs.declared.lookahead.nil.Nil.{Nil}
use Rattle.lalrpop_grammar.specs.declared.repr.NonterminalString.{NonterminalString}
use Rattle.lalrpop_grammar.specs.declared.repr.Production.{Production}
use Rattle.lalrpop_grammar.specs.declared.repr.Symbol.TheVariants.{Nonterminal}
use Rattle.lalrpop_states.specs.declared.lr1_core.state.State.{State}
use Rattle.lalrpop_states.specs.declared.lr1_core.state.StateIndex.{StateIndex}
use Rattle.lalrpop_state_graph.specs.Words.{edges}
use Rattle.lalrpop_state_graph.specs.graphs.StateGraph.{LeadsTo}
use Rattle.lalrpop_traces.specs.traces.TraceGraphs.{Graph, PlainEdge, plain_edges, IsEndpoint, IsGraph}
use Rattle.lalrpop_traces.specs.declared.trace.context.Traced.{Traced}
use Rattle.lalrpop_traces.specs.declared.trace.context.Traced.TheVariants.{Shift, Reduce}
use Rattle.lalrpop_traces.specs.declared.trace.node.TraceGraphNode.{TraceGraphNode}
use Rattle.lalrpop_traces.specs.declared.trace.node.TraceGraphNode.TheVariants.{Nonterminal as NameNode, Item as ItemNode}

-- a backtrace of a shift or a reduction, by an item in a state, among states over the productions
-- of a grammar
pub record Backtrace : Type 0 where
  pub traced : Traced
  pub productions : List Production
  pub states : List (State Bits)
  pub state : StateIndex
  pub item : Dotted Nil

-- the backtrace of a shift
abbrev pub shift_traced : List Production → List (State Bits) → StateIndex → Dotted Nil → Backtrace
shift_traced productions states state item = record { traced = Shift; productions = productions; states = states; state = state; item = item }

-- the backtrace of a reduction
abbrev pub reduction_traced : List Production → List (State Bits) → StateIndex → Dotted Nil → Backtrace
reduction_traced productions states state item = record { traced = Reduce; productions = productions; states = states; state = state; item = item }

-- a nonterminal in a state
abbrev pub Meeting : Type 0
Meeting = StateIndex × NonterminalString

-- a dotted production, without a lookahead
abbrev pub dotted : Production → ℕ → Dotted Nil
dotted p index = record { production = p; index = index; lookahead = record {} }

-- an edge with the symbols around the dot of a production
abbrev pub dot_edge : TraceGraphNode → TraceGraphNode → Production → ℕ → PlainEdge
dot_edge from to p index = record { from = from; to = to; prefix = take index p.symbols; cursor = slice_get p.symbols index; suffix = drop (index + 1) p.symbols }

-- the edge to an item from its own nonterminal
abbrev pub own_edge : Production → ℕ → PlainEdge
own_edge p index = dot_edge (NameNode p.nonterminal) (ItemNode (dotted p index)) p index

-- the trace goes on from an item. If a shift is traced, the dot is at the start. If a reduction is
-- traced, the symbols after the one after the dot derive the empty list
abbrev pub GoesOnBy : Traced → List Production → Dotted Bits → Type 0
GoesOnBy Shift productions item = item.index ≡ 0
GoesOnBy Reduce productions item = IsNullable productions (drop (item.index + 1) item.production.symbols)

-- the item is in the state
abbrev pub StandsIn : List (State Bits) → StateIndex → Dotted Bits → Type 0
StandsIn states n item = (state : State Bits) × (slice_get states n.0 ≡ Some state) × Contains state.items.vec.items item

-- the productions of the traced item and of the items of the states are those of the grammar
pub record HasOwnProductions (b : Backtrace) : Type 0 where
  pub item : Contains b.productions b.item.production
  pub items : (n : StateIndex) (i : Dotted Bits) → StandsIn b.states n i → Contains b.productions i.production

-- each terminal of a production is one of the grammar's
abbrev pub HasOwnTerminals : Rules → Type 0
HasOwnTerminals g = (p : Production) → Contains g.productions p → HasKnownTerminals g.terminals p.symbols

module _ (b : Backtrace) where
  -- the item is in the state, with the nonterminal after its dot
  abbrev pub Takes : Meeting → Dotted Bits → Type 0
  Takes m item = StandsIn b.states m.0 item × (slice_get item.production.symbols item.index ≡ Some (Nonterminal m.1))

  -- the trace goes on from the item
  abbrev pub GoesOn : Dotted Bits → Type 0
  GoesOn item = GoesOnBy b.traced b.productions item

  -- the nonterminal is that of the production, in a state from which the symbols before the dot
  -- lead to the state of the item
  abbrev pub IsSource : Production → ℕ → StateIndex → Meeting → Type 0
  IsSource p index state m = (m.1 ≡ p.nonterminal) × LeadsTo (edges b.states) m.0 (take index p.symbols) state

  -- the nonterminal of the traced item is met in each state from which the symbols before its dot
  -- lead to the traced state. Let an item take a nonterminal that was met, and let the trace go on
  -- from it. Then its own nonterminal is met in each state from which the symbols before its dot
  -- lead there
  pub data IsMet : Meeting → Type 0 where
    begins : {m : Meeting} → IsSource b.item.production b.item.index b.state m → IsMet m
    goes_on : {m n : Meeting} {item : Dotted Bits} → IsMet m → Takes m item → GoesOn item → IsSource item.production item.index m.0 n → IsMet n

  -- an item from which the trace goes on gives an edge from its own nonterminal to the one that it
  -- takes. If a reduction is traced, it gives the edge to itself from its own nonterminal, too. Any
  -- other item gives an edge from itself to the nonterminal that it takes
  pub data GivesEdge (name : NonterminalString) (item : Dotted Bits) (e : PlainEdge) : Type 0 where
    onward : GoesOn item → e ≡ dot_edge (NameNode item.production.nonterminal) (NameNode name) item.production item.index → GivesEdge name item e
    itself : GoesOn item → b.traced ≡ Reduce → e ≡ own_edge item.production item.index → GivesEdge name item e
    stops : ¬ GoesOn item → e ≡ dot_edge (ItemNode (dotted item.production item.index)) (NameNode name) item.production item.index → GivesEdge name item e

  -- the edge is the one to the traced item from its own nonterminal, or is given by an item that
  -- takes a nonterminal that was met
  pub data IsTraced (e : PlainEdge) : Type 0 where
    first : e ≡ own_edge b.item.production b.item.index → IsTraced e
    given : (m : Meeting) (item : Dotted Bits) → IsMet m → Takes m item → GivesEdge m.1 item e → IsTraced e

-- the graph has exactly the edges of the backtrace, each once, and exactly their ends as its nodes
pub record IsTraceOf (b : Backtrace) (graph : Graph) : Type 0 where
  pub exactly : (e : PlainEdge) → Contains (plain_edges graph) e ↔ IsTraced b e
  pub nodes : (n : TraceGraphNode) → Contains graph.nodes n ↔ IsEndpoint (plain_edges graph) n
  pub is_graph : IsGraph graph

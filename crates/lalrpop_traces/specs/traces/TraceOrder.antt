-- The order of a backtrace's edges. A depth first walk over the nonterminals that are met gives
-- them, and each is added once.
use Rattle.std.specs.Prelude.{◌≡◌, ◌≢◌, ◌↔◌, ℕ, List, [], ◌∷◌, ◌++◌, map, take, slice_get, Option, Some, None, Contains}
use Rattle.std.specs.List.{flat_map}
use Rattle.std.specs.List.Sorted.{IsStrictlySortedBy}
use Rattle.lalrpop_base.specs.Words.{Bits, Dotted}
use Rattle.lalrpop_grammar.specs.declared.repr.NonterminalString.{NonterminalString}
use Rattle.lalrpop_grammar.specs.declared.repr.Production.{Production}
use Rattle.lalrpop_grammar.specs.declared.repr.Symbol.TheVariants.{Nonterminal}
use Rattle.lalrpop_states.specs.declared.lr1_core.state.State.{State}
use Rattle.lalrpop_states.specs.declared.lr1_core.state.StateIndex.{StateIndex}
use Rattle.lalrpop_state_graph.specs.Words.{edges, state_cmp}
use Rattle.lalrpop_state_graph.specs.graphs.StateGraph.{LeadsTo}
use Rattle.lalrpop_traces.specs.traces.TraceGraphs.{Graph, PlainEdge, plain_edges}
use Rattle.lalrpop_traces.specs.traces.Traces.{Backtrace, Meeting, GoesOn, dotted, dot_edge, own_edge}
use Rattle.lalrpop_traces.specs.declared.trace.context.Traced.{Traced}
use Rattle.lalrpop_traces.specs.declared.trace.context.Traced.TheVariants.{Shift, Reduce}
use Rattle.lalrpop_traces.specs.declared.trace.node.TraceGraphNode.{TraceGraphNode}
use Rattle.lalrpop_traces.specs.declared.trace.node.TraceGraphNode.TheVariants.{Nonterminal as NameNode, Item as ItemNode}

-- ---- each once
-- the third list is the first with the values of the second added in turn. A value that is there
-- already is left out, and any other is added at the end
pub data AddsInTurn {X : Type 0} : List X → List X → List X → Type 0 where
  all_added : {old : List X} → AddsInTurn old [] old
  left_out : {old xs new : List X} {x : X} → Contains old x → AddsInTurn old xs new → AddsInTurn old (x ∷ xs) new
  put_behind : {old xs new : List X} {x : X} → ¬ Contains old x → AddsInTurn (old ++ x ∷ []) xs new → AddsInTurn old (x ∷ xs) new

-- the ends of each edge in turn: the node from which it comes, and the node to which it leads
abbrev pub ends_of : List PlainEdge → List TraceGraphNode
ends_of es = flat_map (λ (e : PlainEdge). e.from ∷ e.to ∷ []) es

-- ---- the edges of an item
-- the edge to a nonterminal of an item at which the trace stops: it comes from the item itself
abbrev pub stop_edge : NonterminalString → Dotted Bits → PlainEdge
stop_edge name item = dot_edge (ItemNode (dotted item.production item.index)) (NameNode name) item.production item.index

-- the edge to a nonterminal of an item from which the trace goes on: it comes from the item's own
-- nonterminal
abbrev pub onward_edge : NonterminalString → Dotted Bits → PlainEdge
onward_edge name item = dot_edge (NameNode item.production.nonterminal) (NameNode name) item.production item.index

-- the edges of an item from which the trace goes on, in order: the edge onward and, if a reduction
-- is traced, the edge to the item itself
abbrev pub onward_edges : Traced → NonterminalString → Dotted Bits → List PlainEdge
onward_edges Shift name item = onward_edge name item ∷ []
onward_edges Reduce name item = onward_edge name item ∷ own_edge item.production item.index ∷ []

-- ---- the walk
-- a duty of a walk: to come to a nonterminal in a state, or to take an item of a state for the
-- nonterminal that was met there
pub data Duty : Type 0 where
  come_to : Meeting → Duty
  take_up : Meeting → Dotted Bits → Duty

-- the duties to come to a production's nonterminal in each of the states, in their order
abbrev pub come_to_each : Production → List StateIndex → List Duty
come_to_each p sources = map (λ (n : StateIndex). come_to (n, p.nonterminal)) sources

-- the duties to take each of the items, in their order
abbrev pub take_up_each : Meeting → List (Dotted Bits) → List Duty
take_up_each m items = map (take_up m) items

-- the items of a state, none if there is no state
abbrev pub items_at : Option (State Bits) → List (Dotted Bits)
items_at None = []
items_at (Some state) = state.items.vec.items

module _ (b : Backtrace) where
  -- the sources are the states from which the symbols before the dot lead to the state, each once,
  -- rising
  pub record AreSources (p : Production) (index : ℕ) (state : StateIndex) (sources : List StateIndex) : Type 0 where
    pub ascending : IsStrictlySortedBy state_cmp sources
    pub exactly : (r : StateIndex) → Contains sources r ↔ LeadsTo (edges b.states) r (take index p.symbols) state

  -- a walk that has met the first list, and has the duties of the second, gives the edges of the
  -- third in turn. It does the first duty, and then what follows from that, before the other
  -- duties. So it goes depth first
  pub data Walks : List Meeting → List Duty → List PlainEdge → Type 0 where
    -- a walk without duties is at its end
    ends : {met : List Meeting} → Walks met [] []
    -- a nonterminal that was met in the state before leads to nothing
    known : {met : List Meeting} {m : Meeting} {duties : List Duty} {es : List PlainEdge} → Contains met m → Walks met duties es → Walks met (come_to m ∷ duties) es
    -- one that was not met is met now, and leads to the items of the state
    meets : {met : List Meeting} {m : Meeting} {duties : List Duty} {es : List PlainEdge} → ¬ Contains met m → Walks (m ∷ met) (take_up_each m (items_at (slice_get b.states m.0.0)) ++ duties) es → Walks met (come_to m ∷ duties) es
    -- an item with another symbol after its dot, or none, gives nothing
    passes : {met : List Meeting} {m : Meeting} {item : Dotted Bits} {duties : List Duty} {es : List PlainEdge} → slice_get item.production.symbols item.index ≢ Some (Nonterminal m.1) → Walks met duties es → Walks met (take_up m item ∷ duties) es
    -- an item with the nonterminal after its dot, at which the trace stops, gives its edge and
    -- leads to nothing
    stops : {met : List Meeting} {m : Meeting} {item : Dotted Bits} {duties : List Duty} {es : List PlainEdge} → slice_get item.production.symbols item.index ≡ Some (Nonterminal m.1) → ¬ GoesOn b item → Walks met duties es → Walks met (take_up m item ∷ duties) (stop_edge m.1 item ∷ es)
    -- an item from which the trace goes on gives its edges, and leads to its own nonterminal in
    -- each of its sources
    goes_on : {met : List Meeting} {m : Meeting} {item : Dotted Bits} {duties : List Duty} {es : List PlainEdge} (sources : List StateIndex) (later : List PlainEdge) → slice_get item.production.symbols item.index ≡ Some (Nonterminal m.1) → GoesOn b item → AreSources item.production item.index m.0 sources →
        Walks met (come_to_each item.production sources ++ duties) later → es ≡ onward_edges b.traced m.1 item ++ later → Walks met (take_up m item ∷ duties) es

  -- the edges of the graph are the edge to the traced item and those of the walk from its sources,
  -- in turn, each once. Its nodes are the ends of these, in turn, each once. So the backtrace
  -- determines both lists
  pub record IsInOrder (graph : Graph) : Type 0 where
    pub sources : List StateIndex
    pub begins : AreSources b.item.production b.item.index b.state sources
    pub given : List PlainEdge
    pub walk : Walks [] (come_to_each b.item.production sources) given
    pub edges : AddsInTurn [] (own_edge b.item.production b.item.index ∷ given) (plain_edges graph)
    pub nodes : AddsInTurn [] (ends_of (own_edge b.item.production b.item.index ∷ given)) graph.nodes

-- The graph of a trace: its nodes, its edges, and the edges to each node.
use Rattle.std.specs.Prelude.{◌≡◌, ℕ, suc, List, [], ◌∷◌, ◌++◌, ◌⊎◌, map, cond, length, slice_get, Option, Some, None, Contains, option_copied}
use Rattle.std.specs.BTreeMap.{BTreeMap}
use Rattle.std.specs.declared.alloc.Global.{Global}
use Rattle.std.specs.declared.vec.Vec.{Vec}
use Rattle.lalrpop_base.specs.Words.{IsNumbering, AddsOnce, AllDiffer, HasKnownTerminals}
use Rattle.lalrpop_grammar.specs.declared.repr.TerminalString.{TerminalString}
use Rattle.lalrpop_grammar.specs.declared.repr.Symbol.{Symbol}
use Rattle.lalrpop_grammar.specs.declared.repr.Symbol.TheVariants.{Terminal}
use Rattle.lalrpop_states.specs.declared.lr1_core.symbol_sets.SymbolSets.{SymbolSets}
use Rattle.lalrpop_state_graph.specs.Words.{list_at}
use Rattle.lalrpop_traces.specs.contracts.trace.node.TraceGraphNodeOrd.TheImpl as node_ord
use Rattle.lalrpop_traces.specs.contracts.trace.node.TraceGraphNodePartialEq.TheImpl as node_eq
use Rattle.lalrpop_traces.specs.declared.trace.node.TraceGraphNode.{TraceGraphNode}
use Rattle.lalrpop_traces.specs.declared.trace.trace_graph.TraceGraphEdge.{TraceGraphEdge}

-- a graph: its nodes in the order of their numbers, and its edges in the order in which they were
-- added
pub record Graph : Type 0 where
  pub nodes : List TraceGraphNode
  pub edges : List TraceGraphEdge

-- an edge as a value: the node from which it comes, the node to which it leads, and its symbols
pub record PlainEdge : Type 0 where
  pub from : TraceGraphNode
  pub to : TraceGraphNode
  pub prefix : List Symbol
  pub cursor : Option Symbol
  pub suffix : List Symbol

-- the value of an edge with these ends and labels
abbrev pub plain_edge : TraceGraphNode → TraceGraphNode → SymbolSets → PlainEdge
plain_edge from to labels = record { from = from; to = to; prefix = labels.prefix.now; cursor = option_copied labels.cursor; suffix = labels.suffix.now }

-- the value of an edge
abbrev pub plain : TraceGraphEdge → PlainEdge
plain e = plain_edge e.from e.to e.symbol_sets

-- the values of the edges of a graph
abbrev pub plain_edges : Graph → List PlainEdge
plain_edges graph = map plain graph.edges

-- both ends of each edge are nodes
abbrev pub HaveEnds : List TraceGraphNode → List TraceGraphEdge → Type 0
HaveEnds nodes edges = (k : ℕ) (e : TraceGraphEdge) → slice_get edges k ≡ Some e → Contains nodes e.from × Contains nodes e.to

-- no node is there twice, no two edges have one value, and both ends of each edge are nodes
pub record IsGraph (graph : Graph) : Type 0 where
  pub nodes : AllDiffer graph.nodes
  pub edges : AllDiffer (plain_edges graph)
  pub ends : HaveEnds graph.nodes graph.edges

-- an edge comes from the node, or leads to it
abbrev pub IsEndpoint : List PlainEdge → TraceGraphNode → Type 0
IsEndpoint edges n = (e : PlainEdge) × Contains edges e × ((e.from ≡ n) ⊎ (e.to ≡ n))

-- each value of the first list is at its place in the second
abbrev pub KeepPlaces : {X : Type 0} → List X → List X → Type 0
KeepPlaces {X} old new = (n : ℕ) (x : X) → slice_get old n ≡ Some x → slice_get new n ≡ Some x

-- two nodes were added in turn, each if it was not there
abbrev pub AddsBoth : List TraceGraphNode → List TraceGraphNode → TraceGraphNode → TraceGraphNode → Type 0
AddsBoth old new from to = (middle : List TraceGraphNode) × AddsOnce old middle from × AddsOnce middle new to

-- each node was there before, or is one of the two
abbrev pub AddsNoOther : List TraceGraphNode → List TraceGraphNode → TraceGraphNode → TraceGraphNode → Type 0
AddsNoOther old new from to = (n : TraceGraphNode) → Contains new n → Contains old n ⊎ ((n ≡ from) ⊎ (n ≡ to))

-- either an edge with the same value is in the list, which stays, or the edge was added at the end
abbrev pub AddsEdge : List TraceGraphEdge → List TraceGraphEdge → TraceGraphEdge → Type 0
AddsEdge old new e = (Contains (map plain old) (plain e) × (new ≡ old)) ⊎ ((¬ Contains (map plain old) (plain e)) × (new ≡ old ++ e ∷ []))

-- each terminal of the cursor and the suffix is in the list
pub record IsKnownLabel (terminals : List TerminalString) (label : SymbolSets) : Type 0 where
  pub cursor : (t : TerminalString) → option_copied label.cursor ≡ Some (Terminal t) → Contains terminals t
  pub suffix : HasKnownTerminals terminals label.suffix.now

-- each terminal of the cursors and suffixes of the edges is in the list
abbrev pub AreKnownEdges : List TerminalString → List TraceGraphEdge → Type 0
AreKnownEdges terminals edges = (k : ℕ) (e : TraceGraphEdge) → slice_get edges k ≡ Some e → IsKnownLabel terminals e.symbol_sets

-- the number of nodes of a graph
abbrev pub node_count : Graph → ℕ
node_count graph = length graph.nodes

-- the places of the edges to the node, if the first edge of the list has the place n
abbrev pub places_from : ℕ → TraceGraphNode → List TraceGraphEdge → List ℕ
places_from n node [] = []
places_from n node (e ∷ es) = cond (node_eq.ghosts.eq e.to node) (n ∷ places_from (suc n) node es) (places_from (suc n) node es)

-- the numbers of the edges to a node, which are their places, rising
abbrev pub numbers_to : Graph → TraceGraphNode → List ℕ
numbers_to graph node = places_from 0 node graph.edges

-- the numbers of the edges to the source of an edge, if there is one
abbrev pub numbers_to_source : Graph → Option TraceGraphEdge → List ℕ
numbers_to_source graph None = []
numbers_to_source graph (Some e) = numbers_to graph e.from

-- the numbers of the edges to the source of the edge with the number
abbrev pub edge_numbers_to_source : Graph → ℕ → List ℕ
edge_numbers_to_source graph edge = numbers_to_source graph (slice_get graph.edges edge)

-- the labels have the same symbols
pub record SameLabels (a b : SymbolSets) : Type 0 where
  pub prefix : a.prefix.now ≡ b.prefix.now
  pub cursor : option_copied a.cursor ≡ option_copied b.cursor
  pub suffix : a.suffix.now ≡ b.suffix.now

-- the edge comes from the node and carries the symbols
abbrev pub IsFrom : TraceGraphNode → SymbolSets → TraceGraphEdge → Type 0
IsFrom from labels e = (e.from ≡ from) × SameLabels e.symbol_sets labels

-- the parts of a graph: a map of the numbers of the nodes, the edges, the number of the source of
-- each edge, and the places of the edges to each node
pub record IsKept (numbers : BTreeMap TraceGraphNode ℕ) (nodes : List TraceGraphNode) (edges : List TraceGraphEdge) (sources : List ℕ) (incoming : List (Vec ℕ Global)) : Type 0 where
  pub numbered : IsNumbering node_ord.ghosts.cmp numbers []
  pub lists : length incoming ≡ length nodes
  pub places : (n : ℕ) (node : TraceGraphNode) → slice_get nodes n ≡ Some node → list_at incoming n ≡ places_from 0 node edges
  pub counted : length sources ≡ length edges
  pub from : (k n : ℕ) (e : TraceGraphEdge) → slice_get edges k ≡ Some e → slice_get sources k ≡ Some n → slice_get nodes n ≡ Some e.from
  pub differ : AllDiffer (map plain edges)
  pub ends : HaveEnds nodes edges

-- The text of a graph of states.
use Rattle.std.specs.Prelude.{ℕ, ◌+◌, ◌-◌, ◌^◌, ◌==◌, ◌||◌, nat_lt, min, length, sum_by, Bool, true, false, List, [], ◌++◌, Option, None, Some, codes, map, get_or, slice_get, if◌then◌else◌}
use Rattle.std.specs.List.{flat_map, list_any}
use Rattle.lalrpop_base.specs.Words.{Bits}
use Rattle.lalrpop_grammar.specs.declared.repr.NonterminalString.{NonterminalString}
use Rattle.lalrpop_grammar.specs.declared.repr.TerminalString.{TerminalString}
use Rattle.lalrpop_states.specs.declared.lr1_core.state.Conflict.{Conflict}
use Rattle.lalrpop_states.specs.declared.lr1_core.state.State.{State}
use Rattle.lalrpop_states.specs.declared.lr1_core.state.StateIndex.{StateIndex}
use Rattle.table_pictures.specs.Edges.{graph_edges}
use Rattle.table_pictures.specs.Nodes.{node}
use Rattle.table_pictures.specs.declared.edges.ShownStates.{ShownStates}
use Rattle.table_pictures.specs.declared.edges.ShownStates.TheVariants.{All, Around, Only}

-- whether an index is the number
abbrev pub has_number : ℕ → StateIndex → Bool
has_number number index = index.0 == number

-- whether one of the edges leads to the state with a number
abbrev pub leads_by : {K : Type 0} → ℕ → List (K × StateIndex) → Bool
leads_by {K} number entries = list_any (has_number number) (map (λ (e : K × StateIndex). e.1) entries)

-- whether an edge of a state leads to the state with a number
abbrev pub leads_there : ℕ → State Bits → Bool
leads_there number state = leads_by number state.shifts.entries || leads_by number state.gotos.entries

-- whether there is a state and an edge of it leads to the state with a number
abbrev pub comes_from : Option (State Bits) → ℕ → Bool
comes_from None number = false
comes_from (Some state) number = leads_there number state

-- whether a state is shown. It may be that all states are. It may be that the state with a number
-- is, with the states that have an edge to it and the targets of its edges. Or those are whose
-- numbers have flags that are set
abbrev pub shows_state : List (State Bits) → ShownStates → State Bits → Bool
shows_state states All state = true
shows_state states (Around number) state = state.index.0 == number || leads_there number state || comes_from (slice_get states number) state.index.0
shows_state states (Only flags) state = get_or flags.items state.index.0 false

-- the beginning of a graph: it is directed, its nodes are boxes, and its texts have letters of one
-- width
abbrev pub graph_opening : List ℕ
graph_opening = codes "digraph states {\n  node [shape=box fontname=monospace];\n  edge [fontname=monospace];\n"

-- how many edges a state has
abbrev pub state_edge_count : State Bits → ℕ
state_edge_count state = length state.shifts.entries + length state.gotos.entries

-- how many edges states have, at most the greatest `usize`
abbrev pub edge_count : List (State Bits) → ℕ
edge_count states = min (sum_by state_edge_count states) (2 ^ 64 - 1)

-- the greatest number of edges of a graph that is not large
abbrev pub most_edges : ℕ
most_edges = 200

-- how a graph is laid out: with all states from top to bottom, by straight edges if there are many,
-- and with some of the states from left to right
abbrev pub layout_of : List (State Bits) → ShownStates → List ℕ
layout_of states All = if nat_lt most_edges (edge_count states) then codes "  graph [splines=line nslimit=1 nslimit1=1 mclimit=0.2];\n" else []
layout_of states (Around number) = codes "  rankdir=LR;\n"
layout_of states (Only flags) = codes "  rankdir=LR;\n"

module _ (start : NonterminalString) (terminals : List TerminalString) (states : List (State Bits)) (conflicts : List (Conflict Bits)) (shown : ShownStates) where
  -- the node of a state, if the state is shown
  abbrev pub shown_node : State Bits → List ℕ
  shown_node state = if shows_state states shown state then node terminals start conflicts state else []

  -- the text of a graph: a node for each state that is shown, and then the edges that are shown
  abbrev pub graph : List ℕ
  graph = graph_opening ++ (layout_of states shown ++ (flat_map shown_node states ++ (flat_map (graph_edges conflicts shown) states ++ codes "}\n")))

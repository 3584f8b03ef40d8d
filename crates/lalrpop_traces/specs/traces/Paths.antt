-- The example paths of a trace graph, and the paths that a walk over them has left. A path lists
-- the numbers of its edges, the innermost first.
use Rattle.std.specs.Prelude.{◌≡◌, ℕ, zero, suc, ◌-◌, Bool, true, false, ◌||◌, cond, List, [], ◌∷◌, ◌++◌, length, take, reverse, Option, Some, None, Contains}
use Rattle.std.specs.List.{flat_map}
use Rattle.lalrpop_base.specs.Words.{Dotted, AllDiffer, IsNullable}
use Rattle.lalrpop_grammar.specs.declared.repr.Production.{Production}
use Rattle.lalrpop_traces.specs.contracts.trace.node.TraceGraphNodePartialEq.TheImpl as node_eq
use Rattle.lalrpop_traces.specs.traces.Examples.{edge_of, edge_suffix, path_of}
use Rattle.lalrpop_traces.specs.traces.TraceGraphs.{node_count, numbers_to, edge_numbers_to_source}
use Rattle.lalrpop_traces.specs.declared.trace.node.TraceGraphNode.{TraceGraphNode}
use Rattle.lalrpop_traces.specs.declared.trace.node.TraceGraphNode.TheVariants.{Nonterminal, Item}
use Rattle.lalrpop_traces.specs.declared.trace.trace_graph.TraceGraph.{TraceGraph}
use Rattle.lalrpop_traces.specs.declared.trace.trace_graph.TraceGraphEdge.{TraceGraphEdge}
use Rattle.lalrpop_traces.specs.declared.trace.enumerator.EnumeratorState.{EnumeratorState}

-- the node from which an edge comes, if there is an edge
abbrev pub source_of : Option TraceGraphEdge → Option TraceGraphNode
source_of None = None
source_of (Some e) = Some e.from

-- the node to which an edge leads, if there is an edge
abbrev pub target_node : Option TraceGraphEdge → Option TraceGraphNode
target_node None = None
target_node (Some e) = Some e.to

-- whether there is a node and it is an item
abbrev pub is_item : Option TraceGraphNode → Bool
is_item None = false
is_item (Some (Nonterminal name)) = false
is_item (Some (Item item)) = true

-- whether there are two nodes and they are equal
abbrev pub are_one : Option TraceGraphNode → Option TraceGraphNode → Bool
are_one None b = false
are_one (Some a) None = false
are_one (Some a) (Some b) = node_eq.ghosts.eq a b

-- the node of an item, whatever its lookahead
abbrev pub item_node : {L : Type 0} → Dotted L → TraceGraphNode
item_node i = Item (record { production = i.production; index = i.index; lookahead = record {} })

module _ (graph : TraceGraph) where
  -- the node from which the edge with the number comes, if there is one
  abbrev pub source : ℕ → Option TraceGraphNode
  source k = source_of (edge_of graph k)

  -- the node to which the edge with the number leads, if there is one
  abbrev pub target : ℕ → Option TraceGraphNode
  target k = target_node (edge_of graph k)

  -- the path goes backwards from a node over edges to the first item. Each edge leads to the node
  -- from which the edge before it comes. Only the last edge comes from an item
  abbrev pub GoesBack : Option TraceGraphNode → List ℕ → Type 0
  GoesBack here [] = ⊥
  GoesBack here (k ∷ []) = (target k ≡ here) × (is_item (source k) ≡ true)
  GoesBack here (k ∷ (j ∷ path)) = (target k ≡ here) × (is_item (source k) ≡ false) × GoesBack (source k) (j ∷ path)

  -- the nonterminal nodes that a path passes
  abbrev pub passed : List ℕ → List (Option TraceGraphNode)
  passed [] = []
  passed (k ∷ []) = []
  passed (k ∷ (j ∷ path)) = source k ∷ passed (j ∷ path)

  -- an example path goes backwards from a node over edges to the first item, and passes no
  -- nonterminal twice
  pub record IsPath (start : TraceGraphNode) (path : List ℕ) : Type 0 where
    pub goes : GoesBack (Some start) path
    pub once : AllDiffer (passed path)

  -- the edge comes from a node from which one of the listed edges comes
  abbrev pub comes_again : ℕ → List ℕ → Bool
  comes_again k [] = false
  comes_again k (j ∷ taken) = are_one (source j) (source k) || comes_again k taken

  -- after the edges that were taken, a path can go on from the first edge to the second: this one
  -- leads to the source of the first, and none of those that were taken comes from its own source
  pub record GoesOnTo (taken : List ℕ) (k j : ℕ) : Type 0 where
    pub leads : Contains (edge_numbers_to_source graph k) j
    pub new : comes_again j taken ≡ false

  -- a path can go on so from the first edge to the second, and the symbols after the first one are
  -- nullable
  pub record OpensTo (productions : List Production) (taken : List ℕ) (k j : ℕ) : Type 0 where
    pub on : GoesOnTo taken k j
    pub nullable : IsNullable productions (edge_suffix (edge_of graph k))

  -- the paths that go on over an edge, after the edges that were taken, the newest first. They pass
  -- at most so many nonterminals more
  abbrev pub over : ℕ → List ℕ → ℕ → List (List ℕ)
  over zero taken k = cond (is_item (source k)) (reverse (k ∷ taken) ∷ []) []
  over (suc n) taken k = cond (is_item (source k)) (reverse (k ∷ taken) ∷ []) (cond (comes_again k taken) [] (flat_map (over n (k ∷ taken)) (reverse (edge_numbers_to_source graph k))))

  -- the paths back from a node, depth first, the newest edges first. No path passes more
  -- nonterminals than there are nodes
  abbrev pub paths : TraceGraphNode → List (List ℕ)
  paths start = flat_map (over (node_count graph) []) (reverse (numbers_to graph start))

  -- the paths that a walk has left after the edges that it took, the newest first. So many edges
  -- are left at the newest node
  abbrev pub left_over : TraceGraphNode → List EnumeratorState → ℕ → List (List ℕ)
  left_over start [] left = flat_map (over (node_count graph) []) (reverse (take left (numbers_to graph start)))
  left_over start (s ∷ below) left = flat_map (over (node_count graph - length (s ∷ below)) (path_of (s ∷ below))) (reverse (take left (edge_numbers_to_source graph s.number))) ++ left_over start below s.left

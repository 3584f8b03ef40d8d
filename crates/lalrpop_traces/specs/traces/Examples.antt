-- The example that a path of a trace graph spells. A path lists the numbers of its edges, the
-- innermost first.
use Rattle.std.specs.Prelude.{◌≡◌, ℕ, ◌-◌, ◌≤◌, List, [], ◌∷◌, ◌++◌, map, length, take, drop, slice_get, Option, Some, None, option_copied, Contains}
use Rattle.lalrpop_grammar.specs.declared.repr.NonterminalString.{NonterminalString}
use Rattle.lalrpop_grammar.specs.declared.repr.Production.{Production}
use Rattle.lalrpop_grammar.specs.declared.repr.Symbol.{Symbol}
use Rattle.lalrpop_grammar.specs.declared.repr.Symbol.TheVariants.{Nonterminal as NonterminalOf}
use Rattle.lalrpop_traces.specs.declared.trace.node.TraceGraphNode.{TraceGraphNode}
use Rattle.lalrpop_traces.specs.declared.trace.node.TraceGraphNode.TheVariants.{Nonterminal, Item}
use Rattle.lalrpop_traces.specs.declared.trace.trace_graph.TraceGraph.{TraceGraph}
use Rattle.lalrpop_traces.specs.declared.trace.trace_graph.TraceGraphEdge.{TraceGraphEdge}
use Rattle.lalrpop_traces.specs.declared.trace.enumerator.EnumeratorState.{EnumeratorState}
use Rattle.lalrpop_traces.specs.declared.trace.example.Example.{Example}
use Rattle.lalrpop_traces.specs.declared.trace.example.Reduction.{Reduction}
use Rattle.lalrpop_traces.specs.declared.trace.example.ExampleSymbol.{ExampleSymbol}
use Rattle.lalrpop_traces.specs.declared.trace.example.ExampleSymbol.TheVariants.{Symbol as SymbolOf, Epsilon}

-- the symbols of an edge before its target, none if there is no edge
abbrev pub edge_prefix : Option TraceGraphEdge → List Symbol
edge_prefix None = []
edge_prefix (Some e) = e.symbol_sets.prefix.now

-- the symbol of an edge at its target, if there is one
abbrev pub edge_cursor : Option TraceGraphEdge → Option Symbol
edge_cursor None = None
edge_cursor (Some e) = option_copied e.symbol_sets.cursor

-- the symbols of an edge after its target, none if there is no edge
abbrev pub edge_suffix : Option TraceGraphEdge → List Symbol
edge_suffix None = []
edge_suffix (Some e) = e.symbol_sets.suffix.now

-- the nonterminal of a node
abbrev pub nonterminal_of_node : TraceGraphNode → NonterminalString
nonterminal_of_node (Nonterminal name) = name
nonterminal_of_node (Item item) = item.production.nonterminal

-- the cursor as a symbol of an example; without a cursor, `Epsilon` if the prefix is empty, else
-- nothing
abbrev pub place_of : Option Symbol → List Symbol → List ExampleSymbol
place_of (Some x) prefix = SymbolOf x ∷ []
place_of None [] = Epsilon ∷ []
place_of None (x ∷ prefix) = []

-- the cursor as a list, which is empty if there is none
abbrev pub cursor_list : Option Symbol → List Symbol
cursor_list None = []
cursor_list (Some x) = x ∷ []

-- the reduction of an edge from `start` to before `end`, none if there is no edge
abbrev pub reduced_at : Option TraceGraphEdge → ℕ → ℕ → List Reduction
reduced_at None start end = []
reduced_at (Some e) start end = record { start = start; end = end; nonterminal = nonterminal_of_node e.from } ∷ []

-- the nonterminal of the node from which an edge comes, if there is an edge
abbrev pub reduced_name : Option TraceGraphEdge → Option NonterminalString
reduced_name None = None
reduced_name (Some e) = Some (nonterminal_of_node e.from)

-- the numbers of the edges that a walk took
abbrev pub path_of : List EnumeratorState → List ℕ
path_of states = map (λ (s : EnumeratorState). s.number) states

module _ (graph : TraceGraph) where
  -- the edge with the number
  abbrev pub edge_of : ℕ → Option TraceGraphEdge
  edge_of k = slice_get graph.edges k

  -- the prefixes, the outermost first
  abbrev pub prefixes : List ℕ → List Symbol
  prefixes [] = []
  prefixes (k ∷ path) = prefixes path ++ edge_prefix (edge_of k)

  -- the suffixes, the innermost first
  abbrev pub suffixes : List ℕ → List Symbol
  suffixes [] = []
  suffixes (k ∷ path) = edge_suffix (edge_of k) ++ suffixes path

  -- the innermost cursor, or `Epsilon` for an empty right side
  abbrev pub example_place : List ℕ → List ExampleSymbol
  example_place [] = []
  example_place (k ∷ path) = place_of (edge_cursor (edge_of k)) (edge_prefix (edge_of k))

  -- the innermost cursor, if there is one
  abbrev pub innermost : List ℕ → List Symbol
  innermost [] = []
  innermost (k ∷ path) = cursor_list (edge_cursor (edge_of k))

  -- the symbols from the place of the example on: the innermost cursor, and the suffixes
  abbrev pub following : List ℕ → List Symbol
  following path = innermost path ++ suffixes path

  -- the symbols of the example
  abbrev pub spelled : List ℕ → List ExampleSymbol
  spelled path = map SymbolOf (prefixes path) ++ (example_place path ++ map SymbolOf (suffixes path))

  -- the reductions of an example of so many symbols, the innermost first. Each reaches from after
  -- the prefixes to before the suffixes of the edges around it
  abbrev pub example_reductions : ℕ → List ℕ → List Reduction
  example_reductions count [] = []
  example_reductions count (k ∷ path) = reduced_at (edge_of k) (length (prefixes path)) (count - length (suffixes path)) ++ example_reductions count path

  -- the example that a path spells
  pub record IsExampleOf (path : List ℕ) (example : Example) : Type 0 where
    pub symbols : example.symbols.items ≡ spelled path
    pub cursor : example.cursor ≡ length (prefixes path)
    pub reductions : example.reductions.items ≡ example_reductions (length (spelled path)) path

-- the second example has the same symbols, cursor and reductions
pub record IsSameExample (example copy : Example) : Type 0 where
  pub symbols : copy.symbols.items ≡ example.symbols.items
  pub cursor : copy.cursor ≡ example.cursor
  pub reductions : copy.reductions.items ≡ example.reductions.items

-- ---- what an example derives

-- the symbols without each `Epsilon`
abbrev pub read : List ExampleSymbol → List Symbol
read [] = []
read (SymbolOf x ∷ symbols) = x ∷ read symbols
read (Epsilon ∷ symbols) = read symbols

-- the symbols from one place to before another
abbrev pub between : List ExampleSymbol → ℕ → ℕ → List Symbol
between symbols start end = read (take (end - start) (drop start symbols))

-- the list is the right side of a production of the name
abbrev pub IsRightSide : List Production → NonterminalString → List Symbol → Type 0
IsRightSide productions name symbols = (p : Production) × Contains productions p × (p.nonterminal ≡ name) × (p.symbols ≡ symbols)

-- each reduction is around the one before it. Its symbols, with those of the inner one replaced by
-- the inner nonterminal, are a right side of its own nonterminal
abbrev pub ReduceAround : List Production → List ExampleSymbol → Reduction → List Reduction → Type 0
ReduceAround productions symbols inner [] = Unit {0}
ReduceAround productions symbols inner (r ∷ rs) =
    (r.start ≤ inner.start) × (inner.end ≤ r.end) × IsRightSide productions r.nonterminal (between symbols r.start inner.start ++ (NonterminalOf inner.nonterminal ∷ between symbols inner.end r.end)) × ReduceAround productions symbols r rs

-- the symbols of the innermost reduction are a right side of its nonterminal, and so on outwards
abbrev pub ReduceAll : List Production → List ExampleSymbol → List Reduction → Type 0
ReduceAll productions symbols [] = ⊥
ReduceAll productions symbols (r ∷ rs) = (r.start ≤ r.end) × IsRightSide productions r.nonterminal (between symbols r.start r.end) × ReduceAround productions symbols r rs

-- the symbols of each reduction, with those of the next inner one replaced by the inner
-- nonterminal, are a right side of its own nonterminal
abbrev pub SpellsDerivation : List Production → Example → Type 0
SpellsDerivation productions example = ReduceAll productions example.symbols.items example.reductions.items

-- an edge carries a right side of its source's nonterminal. If it leads to a nonterminal, its
-- cursor is that one
pub record CarriesRightSide (productions : List Production) (e : TraceGraphEdge) : Type 0 where
  pub right_side : IsRightSide productions (nonterminal_of_node e.from) (e.symbol_sets.prefix.now ++ (cursor_list (option_copied e.symbol_sets.cursor) ++ e.symbol_sets.suffix.now))
  pub cursor : (name : NonterminalString) → e.to ≡ Nonterminal name → option_copied e.symbol_sets.cursor ≡ Some (NonterminalOf name)

-- each of the edges carries a right side of its source's nonterminal
abbrev pub CarryRightSides : List Production → List TraceGraphEdge → Type 0
CarryRightSides productions edges = (k : ℕ) (e : TraceGraphEdge) → slice_get edges k ≡ Some e → CarriesRightSide productions e

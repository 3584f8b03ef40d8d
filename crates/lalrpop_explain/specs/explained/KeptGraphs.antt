-- The graphs of reductions that are kept, so that each is made once for all conflicts of the
-- reduction in a state. A graph does not depend on the tokens of a conflict.
use Rattle.std.specs.Prelude.{◌≡◌, ℕ, List, false, [], Some, None, slice_get}
use Rattle.lalrpop_base.specs.Words.{Bits, Dotted, Rules}
use Rattle.lalrpop_states.specs.declared.lookahead.nil.Nil.{Nil}
use Rattle.lalrpop_states.specs.declared.lr1_core.state.State.{State}
use Rattle.lalrpop_states.specs.declared.lr1_core.state.StateIndex.{StateIndex}
use Rattle.lalrpop_traces.specs.Words.{AreKnownEdges, BeganIn, Graph, IsInOrder, IsTraceOf, dotted, item_node, paths, reduction_traced}
use Rattle.lalrpop_explain.specs.declared.explain.kept.KeptGraph.{KeptGraph}
use Rattle.lalrpop_explain.specs.declared.explain.kept.KeptGraphs.{KeptGraphs}

-- an item that began in the states is finished, as the item of a kept graph is. Both have the same
-- nonterminal, and began in the same states
pub record IsLike (kept : KeptGraph) (item : Dotted Bits) (began : List StateIndex) : Type 0 where
  pub name : kept.production.now.nonterminal ≡ item.production.nonterminal
  pub sources : kept.sources.items ≡ began
  pub finished : slice_get item.production.symbols item.index ≡ None
  pub finished_like : slice_get kept.production.now.symbols kept.index ≡ None

-- the rules of a grammar, and states over its productions
module _ (g : Rules) (states : List (State Bits)) where
  -- the graph is that of the backtrace of a reduction, by an item in a state. Its terminals are
  -- those of the grammar
  pub record IsReductionGraph (state : StateIndex) (item : Dotted Nil) (graph : Graph) : Type 0 where
    pub traced : IsTraceOf (reduction_traced g.productions states state item) graph
    pub ordered : IsInOrder (reduction_traced g.productions states state item) graph
    pub known : AreKnownEdges g.terminals graph.edges

  -- a graph is kept with its reduction, and with the states in which the item began. If it is kept
  -- as one without a path, it has none
  pub record IsKeptGraph (one : KeptGraph) : Type 0 where
    pub reduction : IsReductionGraph one.state (dotted one.production.now one.index) one.graph
    pub sources : BeganIn states one.state (dotted one.production.now one.index) one.sources.items
    pub paths : one.has_path ≡ false → paths one.graph (item_node (dotted one.production.now one.index)) ≡ []

  -- each of the graphs is kept so
  abbrev pub AreKept : KeptGraphs → Type 0
  AreKept kept = (n : ℕ) (one : KeptGraph) → slice_get kept.graphs.items n ≡ Some one → IsKeptGraph one

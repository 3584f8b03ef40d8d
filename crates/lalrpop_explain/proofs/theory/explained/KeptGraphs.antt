-- Each graph that is kept is that of the reduction with which it is kept.
use Rattle.std.proofs.Common.{◌≡◌, ℕ, true, false, inl, inr, List, [], ◌∷◌, ◌++◌, sym, ◌∙◌, ap, subst, eqb-true}
use Rattle.std.specs.Prelude.{Contains, Some, slice_get}
use lib.Pointwise.{pointwise}
use Rattle.lalrpop_base.specs.Words.{Bits, Dotted, Rules, list_exact}
use Rattle.lalrpop_collections.proofs.theory.lists.Lists.{contains_place, some≢none}
use Rattle.lalrpop_collections.proofs.theory.lists.Places.{push_cases}
use Rattle.lalrpop_states.specs.contracts.lr1_core.state.StateIndexPartialEq.TheImpl as state_eq
use Rattle.lalrpop_traces.proofs.theory.traces.TracedRightSides.{known_edges, traced_right_sides}
use Rattle.lalrpop_traces.specs.Words.{AreAlike, BeganIn, Graph, HasOwnProductions, IsInOrder, IsTraceOf, dotted, item_node, paths, reduction_traced}
use Rattle.lalrpop_explain.specs.Words.{AreKept, AreOwnStates, IsKeptGraph, IsLike, IsReductionGraph}
use Rattle.lalrpop_explain.specs.declared.explain.kept.KeptGraph.{KeptGraph}
use Rattle.lalrpop_explain.specs.declared.explain.kept.KeptGraphs.{KeptGraphs}
use Rattle.lalrpop_explain.proofs.Types.{Nil, Production, State, StateIndex}

-- states that compare as equal are equal
state_exact : (a b : StateIndex) → state_eq.ghosts.eq a b ≡ true → a ≡ b
state_exact a b h = let index_of : ℕ → StateIndex = λ n. record { 0 = n } in ap index_of (eqb-true a.0 b.0 h)

-- so are lists of states
pub states_exact : (a b : List StateIndex) → pointwise state_eq.ghosts.eq a b ≡ true → a ≡ b
states_exact a b h = list_exact state_exact a b h

-- an item began in the states in which an equal one did, in equal states
pub began_same : (states made : List (State Bits)) (state : StateIndex) (item begun : Dotted Nil) (sources : List StateIndex) → made ≡ states → begun ≡ item → BeganIn made state begun sources → BeganIn states state item sources
began_same states made state item begun sources same_states same_items began =
    subst (λ (xs : List (State Bits)). BeganIn xs state item sources) same_states (subst (λ (i : Dotted Nil). BeganIn made state i sources) same_items began)

module _ (g : Rules) (states : List (State Bits)) where
  -- each of the graphs is kept with its reduction
  abbrev AreAll : List KeptGraph → Type 0
  AreAll graphs = (n : ℕ) (one : KeptGraph) → slice_get graphs n ≡ Some one → IsKeptGraph g states one

  -- no graph is kept
  pub none_kept : (graphs : List KeptGraph) → graphs ≡ [] → AreAll graphs
  none_kept graphs none n one at = absurd (some≢none (sym at ∙ ap (λ (xs : List KeptGraph). slice_get xs n) none))

  -- the same graphs are kept
  pub kept_same : (old new : List KeptGraph) → new ≡ old → AreAll old → AreAll new
  kept_same old new same kept n one at = kept n one (ap (λ (xs : List KeptGraph). slice_get xs n) (sym same) ∙ at)

  -- one more graph is kept
  pub kept_more : (old new : List KeptGraph) (one : KeptGraph) → new ≡ old ++ one ∷ [] → IsKeptGraph g states one → AreAll old → AreAll new
  kept_more old new one grown is kept n other at = elim (push_cases old one n other (ap (λ (xs : List KeptGraph). slice_get xs n) (sym grown) ∙ at)) [
    | inl before ↦ kept n other before
    | inr here ↦ subst (IsKeptGraph g states) here.1 is
  ]

  -- each graph among those that are kept is
  pub kept_among : (kept : KeptGraphs) (one : KeptGraph) → Contains kept.graphs.items one → AreKept g states kept → IsKeptGraph g states one
  kept_among kept one c are = let at = contains_place kept.graphs.items one c in are at.0 one at.1

  -- a graph that is kept with the state and the production of an item, and with the place of its dot,
  -- is that of the item
  pub kept_for : (kept : KeptGraph) (state : StateIndex) (item : Dotted Bits) → kept.state ≡ state → kept.production.now ≡ item.production → kept.index ≡ item.index → IsKeptGraph g states kept → IsReductionGraph g states state (dotted item.production item.index) kept.graph
  kept_for kept state item same_state same_production same_index is =
      let at_production : IsReductionGraph g states kept.state (dotted item.production kept.index) kept.graph = subst (λ (p : Production). IsReductionGraph g states kept.state (dotted p kept.index) kept.graph) same_production is.reduction in
      let at_index : IsReductionGraph g states kept.state (dotted item.production item.index) kept.graph = subst (λ (n : ℕ). IsReductionGraph g states kept.state (dotted item.production n) kept.graph) same_index at_production in
      subst (λ (s : StateIndex). IsReductionGraph g states s (dotted item.production item.index) kept.graph) same_state at_index

  -- if it is kept as one without a path, it has none from the item
  pub no_path_for : (kept : KeptGraph) (item : Dotted Bits) → kept.production.now ≡ item.production → kept.index ≡ item.index → IsKeptGraph g states kept → kept.has_path ≡ false → paths kept.graph (item_node item) ≡ []
  no_path_for kept item same_production same_index is none =
      let at_production : paths kept.graph (item_node (dotted item.production kept.index)) ≡ [] = subst (λ (p : Production). paths kept.graph (item_node (dotted p kept.index)) ≡ []) same_production (is.paths none) in
      subst (λ (n : ℕ). paths kept.graph (item_node (dotted item.production n)) ≡ []) same_index at_production

  -- ---- the graph of a like reduction
  module _ (kept : KeptGraph) (item : Dotted Bits) (sources : List StateIndex) (like : IsLike kept item sources) (is : IsKeptGraph g states kept) (state : StateIndex) (begun : Dotted Nil) (same : begun ≡ dotted item.production item.index) (began : BeganIn states state (dotted item.production item.index) sources) where
    -- it differs from the kept one in the first edge alone
    alike : AreAlike states state (dotted item.production item.index) kept.state (dotted kept.production.now kept.index)
    alike =
        let listed : BeganIn states kept.state (dotted kept.production.now kept.index) sources = subst (BeganIn states kept.state (dotted kept.production.now kept.index)) like.sources is.sources in
        record {
          name = sym like.name;
          sources = λ r. (λ leads. (listed r).0 ((began r).1 leads), λ leads. (began r).0 ((listed r).1 leads));
          finished = like.finished;
          finished_like = like.finished_like;
        }

    -- so a graph that is made from the kept one is that of the reduction
    pub like_graph : (graph : Graph) → AreOwnStates g states → Contains g.productions item.production →
        ((productions : List Production) (states : List (State Bits)) (state other : StateIndex) (like : Dotted Nil) → AreAlike states state begun other like → IsInOrder (reduction_traced productions states other like) kept.graph → IsInOrder (reduction_traced productions states state begun) graph) →
        ((productions : List Production) (states : List (State Bits)) (state other : StateIndex) (like : Dotted Nil) → AreAlike states state begun other like → IsInOrder (reduction_traced productions states other like) kept.graph → IsTraceOf (reduction_traced productions states state begun) graph) →
        IsReductionGraph g states state (dotted item.production item.index) graph
    like_graph graph own c ordered traced =
        let are : AreAlike states state begun kept.state (dotted kept.production.now kept.index) = subst (λ (i : Dotted Nil). AreAlike states state i kept.state (dotted kept.production.now kept.index)) (sym same) alike in
        let order = subst (λ (i : Dotted Nil). IsInOrder (reduction_traced g.productions states state i) graph) same (ordered g.productions states state kept.state (dotted kept.production.now kept.index) are is.reduction.ordered) in
        let trace = subst (λ (i : Dotted Nil). IsTraceOf (reduction_traced g.productions states state i) graph) same (traced g.productions states state kept.state (dotted kept.production.now kept.index) are is.reduction.ordered) in
        let owned : HasOwnProductions (reduction_traced g.productions states state (dotted item.production item.index)) = record { item = c; items = own.items } in
        record { traced = trace; ordered = order; known = known_edges g graph.edges own.known (traced_right_sides (reduction_traced g.productions states state (dotted item.production item.index)) owned graph trace) }

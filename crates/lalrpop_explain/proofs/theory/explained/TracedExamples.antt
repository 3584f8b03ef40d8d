-- The graph of a reduction that is traced: its edges have terminals with bits, and the examples of
-- its walk are the first ones of the item.
use Rattle.std.proofs.Common.{◌≡◌, ℕ, List, [], sym, ap, subst}
use Rattle.std.specs.Prelude.{Contains}
use Rattle.lalrpop_base.specs.Words.{Bits, Dotted, Rules}
use Rattle.lalrpop_traces.specs.Words.{item_node, paths, Graph, AreKnownEdges, IsInOrder, HasOwnProductions, HasOwnTerminals, IsTraceOf, StandsIn, dotted, reduction_traced, to_come}
use Rattle.lalrpop_explain.specs.explained.FirstExamples.{no_example, none}
use Rattle.lalrpop_explain.specs.Words.{AreExamplesOf, AreFirst, AreFirstMeeting, AreOwnStates, AreReduceExamples, GoesOnWith, IsReductionGraph}
use Rattle.lalrpop_explain.proofs.Types.{Example, FilteredPathEnumerator, Nil, State, StateIndex}

-- a tracer has the states and the rules with which it was made
module _ (g h : Rules) (states made : List (State Bits)) (same_rules : h ≡ g) (same_states : made ≡ states) (state : StateIndex) (begun : Dotted Nil) (item : Dotted Bits) (is : begun ≡ dotted item.production item.index) where
  own_productions : AreOwnStates g states → Contains g.productions item.production → HasOwnProductions (reduction_traced h.productions made state begun)
  own_productions own c =
      let named : item.production ≡ begun.production = sym (ap (λ (i : Dotted Nil). i.production) is) in
      record {
        item = subst (λ (r : Rules). Contains r.productions begun.production) (sym same_rules) (subst (Contains g.productions) named c);
        items = λ n i stands. subst (λ (r : Rules). Contains r.productions i.production) (sym same_rules) (own.items n i (subst (λ (xs : List (State Bits)). StandsIn xs n i) same_states stands));
      }

  -- the graph is that of the reduction
  pub traced_graph : AreOwnStates g states → Contains g.productions item.production → (graph : Graph) → IsTraceOf (reduction_traced h.productions made state begun) graph → IsInOrder (reduction_traced h.productions made state begun) graph → (HasOwnTerminals h → HasOwnProductions (reduction_traced h.productions made state begun) → AreKnownEdges h.terminals graph.edges) → IsReductionGraph g states state (dotted item.production item.index) graph
  traced_graph own c graph trace order known =
      let own_terminals : HasOwnTerminals h = subst HasOwnTerminals (sym same_rules) own.known in
      let of_rules = subst (λ (r : Rules). IsTraceOf (reduction_traced r.productions made state begun) graph) same_rules trace in
      let of_states = subst (λ (xs : List (State Bits)). IsTraceOf (reduction_traced g.productions xs state begun) graph) same_states of_rules in
      let order_of_rules = subst (λ (r : Rules). IsInOrder (reduction_traced r.productions made state begun) graph) same_rules order in
      let order_of_states = subst (λ (xs : List (State Bits)). IsInOrder (reduction_traced g.productions xs state begun) graph) same_states order_of_rules in
      record {
        traced = subst (λ (i : Dotted Nil). IsTraceOf (reduction_traced g.productions states state i) graph) is of_states;
        ordered = subst (λ (i : Dotted Nil). IsInOrder (reduction_traced g.productions states state i) graph) is order_of_states;
        known = subst (λ (r : Rules). AreKnownEdges r.terminals graph.edges) same_rules (known own_terminals (own_productions own c));
      }

-- the first examples of a filtered walk over the graph of a reduction are those of the item
pub graph_examples : (g : Rules) (states : List (State Bits)) (state : StateIndex) (item : Dotted Bits) (most : ℕ) (graph : Graph) (walk : FilteredPathEnumerator) (examples : List Example) → IsReductionGraph g states state (dotted item.production item.index) graph →
    walk.base.graph.now ≡ graph → walk.first_sets.now ≡ g → walk.lookahead ≡ item.lookahead → to_come walk.base ≡ paths graph (item_node item) → AreFirstMeeting walk most examples → AreReduceExamples g states most state item examples
graph_examples g states state item most graph walk examples is over sets lookahead come met =
    let by_rules : AreFirst (GoesOnWith g walk.base.graph.now walk.lookahead) most (to_come walk.base) met.first = subst (λ (r : Rules). AreFirst (GoesOnWith r walk.base.graph.now walk.lookahead) most (to_come walk.base) met.first) sets met.are_first in
    let by_graph : AreFirst (GoesOnWith g graph walk.lookahead) most (to_come walk.base) met.first = subst (λ (x : Graph). AreFirst (GoesOnWith g x walk.lookahead) most (to_come walk.base) met.first) over by_rules in
    let by_tokens : AreFirst (GoesOnWith g graph item.lookahead) most (to_come walk.base) met.first = subst (λ (s : Bits). AreFirst (GoesOnWith g graph s) most (to_come walk.base) met.first) lookahead by_graph in
    record {
      graph = graph;
      traced = is.traced;
      ordered = is.ordered;
      first = met.first;
      are_first = subst (λ (all : List (List ℕ)). AreFirst (GoesOnWith g graph item.lookahead) most all met.first) come by_tokens;
      spelled = subst (λ (x : Graph). AreExamplesOf x met.first examples) over met.spelled;
    }

-- an item whose graph has no path has no example
pub no_examples : (g : Rules) (states : List (State Bits)) (state : StateIndex) (item : Dotted Bits) (most : ℕ) (graph : Graph) (examples : List Example) → IsReductionGraph g states state (dotted item.production item.index) graph → paths graph (item_node item) ≡ [] → examples ≡ [] → AreReduceExamples g states most state item examples
no_examples g states state item most graph examples is pathless empty = record {
  graph = graph;
  traced = is.traced;
  ordered = is.ordered;
  first = [];
  are_first = subst (λ (all : List (List ℕ)). AreFirst (GoesOnWith g graph item.lookahead) most all []) (sym pathless) none;
  spelled = subst (λ (xs : List Example). AreExamplesOf graph [] xs) (sym empty) no_example;
}

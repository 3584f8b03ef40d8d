-- The traces of a state meet what tracing requires, and tracing an action keeps that.
use Rattle.std.proofs.Common.{◌≡◌, ◌∙◌, ◌<◌, ℕ, List, length, sym, subst, arith}
use Rattle.lalrpop_base.specs.Words.{AreCoherent, IsWellFormed, productions, rules_of}
use Rattle.lalrpop_tables.specs.Words.{AreLr0States}
use Rattle.lalrpop_states.specs.declared.lookahead.nil.Nil.{Nil}
use Rattle.lalrpop_states.specs.declared.lr1_core.state.Action.{Action}
use Rattle.lalrpop_states.specs.declared.lr1_core.state.State.{State}
use Rattle.lalrpop_grammar.specs.declared.repr.NonterminalString.{NonterminalString}
use Rattle.lalrpop_grammar.specs.declared.repr.grammar.Grammar.{Grammar}
use Rattle.table_questions.specs.Traces.{AreReadyToTrace, IsTracing}
use Rattle.table_questions.specs.declared.ask.lane_tables.Traces.{Traces}
use Rattle.lalrpop_tables.specs.Words.{HaveOwnItems, IsReadyToTrace, ReducesOwn}
use Rattle.lalrpop_lanes.specs.declared.lane_table.lane.LaneTracer.{LaneTracer}

-- the traces of a listed state are ready
pub ready_traces : (traces : Traces) (start : NonterminalString) → IsWellFormed traces.grammar.now → AreLr0States (rules_of traces.grammar.now) start traces.states.items → HaveOwnItems (productions traces.grammar.now) traces.states.items → traces.state < length traces.states.items → AreReadyToTrace traces
ready_traces traces start well made own listed = record {
  well_formed = well;
  coherent = made.coherent;
  own = own;
  listed = listed;
}

-- ---- one action more
pub tracing_more : (traces : Traces) (old new : LaneTracer Nil) → IsTracing traces old → IsReadyToTrace new → (new.grammar.now ≡ old.grammar.now) × (new.start ≡ old.start) × (new.states.now ≡ old.states.now) × (new.table.conflicts ≡ old.table.conflicts) → IsTracing traces new
tracing_more traces old new t ready over = record {
  ready = ready;
  grammar = over.0 ∙ t.grammar;
  states = over.2 ∙ t.states;
  columns = over.3 ∙ t.columns;
}

pub action_own : (traces : Traces) (tracer : LaneTracer Nil) (action copy : Action) → IsTracing traces tracer → ReducesOwn (productions traces.grammar.now) action → copy ≡ action → ReducesOwn (productions tracer.grammar.now) copy
action_own traces tracer action copy t own same =
    subst (λ (a : Action). ReducesOwn (productions tracer.grammar.now) a) (sym same) (subst (λ (g : Grammar). ReducesOwn (productions g) action) (sym t.grammar) own)

pub state_listed : (traces : Traces) (tracer : LaneTracer Nil) → AreReadyToTrace traces → IsTracing traces tracer → traces.state < length tracer.states.now
state_listed traces tracer ready t = subst (λ (states : List (State Nil)). traces.state < length states) (sym t.states) ready.listed

pub column_there : (traces : Traces) (tracer : LaneTracer Nil) (count place k : ℕ) → IsTracing traces tracer → count ≡ length traces.actions.keys → place < count → k ≡ place → k < tracer.table.conflicts
column_there traces tracer count place k t counted within same = let c = t.columns in omega arith

-- ---- the first step
pub coherent_there : (traces : Traces) (states : List (State Nil)) → AreReadyToTrace traces → states ≡ traces.states.items → AreCoherent states
coherent_there traces states ready same = subst (λ (xs : List (State Nil)). AreCoherent xs) (sym same) ready.coherent

pub own_there : (traces : Traces) (states : List (State Nil)) → AreReadyToTrace traces → states ≡ traces.states.items → HaveOwnItems (productions traces.grammar.now) states
own_there traces states ready same = subst (λ (xs : List (State Nil)). HaveOwnItems (productions traces.grammar.now) xs) (sym same) ready.own

pub tracing_start : (traces : Traces) (tracer : LaneTracer Nil) (start : NonterminalString) (states : List (State Nil)) (count : ℕ) → IsReadyToTrace tracer → (tracer.grammar.now ≡ traces.grammar.now) × (tracer.start ≡ start) × (tracer.states.now ≡ states) → states ≡ traces.states.items → tracer.table.conflicts ≡ count → count ≡ length traces.actions.keys → IsTracing traces tracer
tracing_start traces tracer start states count ready over same columns counted = record {
  ready = ready;
  grammar = over.0;
  states = over.2 ∙ same;
  columns = columns ∙ counted;
}

-- What the tracing of the actions of LR(0) states requires.
use Rattle.std.specs.Prelude.{◌≡◌, ◌<◌, length}
use Rattle.lalrpop_base.specs.Words.{AreCoherent, IsWellFormed, productions}
use Rattle.lalrpop_states.specs.declared.lookahead.nil.Nil.{Nil}
use Rattle.table_questions.specs.declared.ask.lane_tables.Traces.{Traces}
use Rattle.lalrpop_tables.specs.Words.{HaveOwnItems, IsReadyToTrace}
use Rattle.lalrpop_lanes.specs.declared.lane_table.lane.LaneTracer.{LaneTracer}

-- the states are coherent and have items of a well-formed grammar, and the state whose actions are
-- traced is among them
pub record AreReadyToTrace (traces : Traces) : Type 0 where
  pub well_formed : IsWellFormed traces.grammar.now
  pub coherent : AreCoherent traces.states.items
  pub own : HaveOwnItems (productions traces.grammar.now) traces.states.items
  pub listed : traces.state < length traces.states.items

-- while actions are traced, the tracer is ready, has the grammar and the states, and has a column
-- for each action
pub record IsTracing (traces : Traces) (tracer : LaneTracer Nil) : Type 0 where
  pub ready : IsReadyToTrace tracer
  pub grammar : tracer.grammar.now ≡ traces.grammar.now
  pub states : tracer.states.now ≡ traces.states.items
  pub columns : tracer.table.conflicts ≡ length traces.actions.keys

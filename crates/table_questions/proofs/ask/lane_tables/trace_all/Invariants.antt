use Rattle.table_questions.specs.Traces.{IsTracing}
use Rattle.table_questions.proofs.ask.lane_tables.trace_all.Given as goal

abbrev pub invariant-loop-action : goal.invariant-loop-action
invariant-loop-action l = IsTracing l.traces l.tracer

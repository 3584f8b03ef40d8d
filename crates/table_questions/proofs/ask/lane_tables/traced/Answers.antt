use Rattle.table_questions.proofs.OwnItems.{coherent_there, own_there}
use Rattle.table_questions.proofs.ask.lane_tables.traced.Goals as goal

pub new-tracer-requires-clause-coherent : goal.new-tracer-requires-clause-coherent
new-tracer-requires-clause-coherent c = coherent_there c.args.traces.now c.deref-2.result.now c.requires c.deref-2.ensures.value

pub new-tracer-requires-clause-own : goal.new-tracer-requires-clause-own
new-tracer-requires-clause-own c = own_there c.args.traces.now c.deref-2.result.now c.requires c.deref-2.ensures.value

use Rattle.std.proofs.Common.{refl}
use Rattle.lalrpop_bench.proofs.ask.runs.run_over.Goals as goal

pub push_partial-requires-clause-coherent : goal.push_partial-requires-clause-coherent
push_partial-requires-clause-coherent g c = c.if-not-are_coherent.ensures.0 refl

pub push_run-requires-clause-coherent : goal.push_run-requires-clause-coherent
push_run-requires-clause-coherent g c = c.if-not-are_coherent.ensures.0 refl

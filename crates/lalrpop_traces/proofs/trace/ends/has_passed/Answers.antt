use Rattle.std.proofs.Common.{sym, ◌∙◌, refl}
use Rattle.lalrpop_traces.proofs.theory.traces.PathsLeft.{again_among}
use Rattle.lalrpop_traces.proofs.trace.ends.has_passed.Goals as goal

pub returns-then-come_together : goal.returns-then-come_together
returns-then-come_together c = sym (again_among c.args.graph.now c.args.edge c.args.path.now c.args.path.now c.loop-state.state-index _ refl c.loop-state-test.true (sym c.come_together.ensures ∙ c.if-come_together.true))

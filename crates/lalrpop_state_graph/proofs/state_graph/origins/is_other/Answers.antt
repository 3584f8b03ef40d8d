use Rattle.std.proofs.Common.{sym}
use Rattle.lalrpop_state_graph.proofs.theory.graphs.MovedOrigins.{other_source, other_told}
use Rattle.lalrpop_state_graph.proofs.state_graph.origins.is_other.Goals as goal

pub returns-then-from-source : goal.returns-then-from-source
returns-then-from-source c = sym (other_source c.args.symbol.now c.args.source c.args.origin.now c.if-from-source.true)

pub returns : goal.returns
returns c = other_told c.args.symbol.now c.args.source c.args.origin.now c.equal.result c.if-from-source.false c.equal.ensures

use Rattle.lalrpop_construction.proofs.theory.construction.Lookaheads.{nothing_fits}
use Rattle.lalrpop_construction_tests.proofs.moves.moves_without_lookahead.Goals as goal

pub new-requires-clause-fits : goal.new-requires-clause-fits
new-requires-clause-fits c = nothing_fits c.args.grammar.now.terminals

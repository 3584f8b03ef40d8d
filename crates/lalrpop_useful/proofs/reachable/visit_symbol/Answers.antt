use Rattle.lalrpop_useful.proofs.theory.useful.Reachable.{Symbol-name}
use Rattle.lalrpop_useful.proofs.reachable.visit_symbol.Goals as goal

pub returns : goal.returns
returns c = Symbol-name c.in-Nonterminal.name c.args.symbol.now _ _ c.in-Nonterminal.is c.in_ok-visit.ensures

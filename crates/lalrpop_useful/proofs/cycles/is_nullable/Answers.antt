use Rattle.lalrpop_useful.proofs.theory.useful.Cycles.{Terminal-not}
use Rattle.lalrpop_useful.proofs.cycles.is_nullable.Goals as goal

pub returns-in-Terminal : goal.returns-in-Terminal
returns-in-Terminal c = (λ h. cc, λ d. absurd (Terminal-not c.args.sets.now.productions c.args.symbol.now _ c.in-Terminal.is d))

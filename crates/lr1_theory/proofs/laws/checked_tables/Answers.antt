use Rattle.lr1_theory.proofs.theory.closures.Closures.{checked_faithful}
use Rattle.lr1_theory.proofs.laws.checked_tables.Goals as goal

pub returns : goal.returns
returns c = checked_faithful

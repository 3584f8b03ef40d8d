use Rattle.std.proofs.Common.{sym, ◌∙◌}
use Rattle.lalrpop_explain.proofs.theory.explained.KeptGraphs.{states_exact}
use Rattle.lalrpop_explain.proofs.explain.kept.are_same.Goals as goal

pub returns : goal.returns
returns c = λ h. states_exact c.args.a.now c.args.b.now (sym c.eq.ensures ∙ h)

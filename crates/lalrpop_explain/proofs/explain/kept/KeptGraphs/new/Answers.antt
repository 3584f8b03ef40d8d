use Rattle.lalrpop_explain.proofs.theory.explained.KeptGraphs.{none_kept}
use Rattle.lalrpop_explain.proofs.explain.kept.KeptGraphs.new.Goals as goal

pub returns : goal.returns
returns c = record { none = λ g states. none_kept g states _ c.new.ensures.items }

use Rattle.std.proofs.Common.{List, subst}
use Rattle.std.specs.Prelude.{Contains}
use Rattle.lalrpop_explain.specs.declared.explain.kept.KeptGraph.{KeptGraph}
use Rattle.lalrpop_explain.proofs.theory.explained.KeptGraphs.{kept_among}
use Rattle.lalrpop_explain.proofs.explain.kept.KeptGraphs.find_like.Goals as goal

pub returns-clause-kept : goal.returns-clause-kept
returns-clause-kept c = λ g states kept.
    let one = c.in_ok-kept.kept.now in
    kept_among g states c.args.self.now one (subst (λ (graphs : List KeptGraph). Contains graphs one) c.deref.ensures.value c.in_ok-kept.ensures.one) kept

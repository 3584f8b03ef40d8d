use Rattle.std.proofs.Common.{sym, subst, Option}
use Rattle.lalrpop_grammar.specs.declared.repr.NonterminalString.{NonterminalString}
use Rattle.grammar_diagnostics.specs.Nearest.{IsNearestResult}
use Rattle.grammar_diagnostics.proofs.NearestNames.{nearest_result}
use Rattle.grammar_diagnostics.proofs.nearest.nearest_name.Goals as goal

pub returns-clause-nearest : goal.returns-clause-nearest
returns-clause-nearest c =
    let g = c.args.grammar.now in
    let a = c.args.name.now in
    subst (λ (o : Option NonterminalString). IsNearestResult g a o) (sym c.in_ok-near.ensures) (nearest_result a g c.requires)

use Rattle.lalrpop_grammar.proofs.theory.grammars.Grammars.{productions_own}
use Rattle.lalrpop_useful.proofs.theory.useful.Undefined.{has_test}
use Rattle.lalrpop_useful.proofs.undefined.has_production.Goals as goal

pub returns : goal.returns
returns c =
    let g = c.args.grammar.now in
    has_test g c.args.name.now c.requires (productions_own g c.requires c.len-names.ensures.ordered) c.productions_for.result.now c.is_empty.result c.productions_for.ensures c.is_empty.ensures

use Rattle.std.proofs.Common.{◌∙◌}
use Rattle.lalrpop_collections.proofs.theory.sets.TokenSetLemmas.{equal_sets}
use Rattle.lalrpop_grammar.proofs.lookahead.token_set.TokenSetPartialEq.eq.Goals as goal

pub returns : goal.returns
returns c =
    c.eq.ensures
    ∙ equal_sets c.words.result.now c.words-2.result.now c.args.self.now c.args.other.now c.words.ensures.is c.words-2.ensures.is c.words.ensures.view c.words-2.ensures.view

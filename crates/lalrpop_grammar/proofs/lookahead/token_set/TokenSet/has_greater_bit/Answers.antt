use Rattle.std.proofs.Common.{◌∙◌, sym}
use Rattle.lalrpop_collections.proofs.theory.sets.TokenSetLemmas.{seen_at}
use Rattle.lalrpop_grammar.proofs.lookahead.token_set.TokenSet.has_greater_bit.Goals as goal

pub returns-clause-yes : goal.returns-clause-yes
returns-clause-yes c = λ h.
    let found = c.has_greater.ensures.yes h in
    (found.0, found.1, sym (seen_at c.words.result.now c.args.self.now found.0 c.words.ensures.view) ∙ found.2)

pub returns-clause-no : goal.returns-clause-no
returns-clause-no c = λ h q l. sym (seen_at c.words.result.now c.args.self.now q c.words.ensures.view) ∙ c.has_greater.ensures.no h q l

use Rattle.std.proofs.Common.{◌∙◌, sym}
use Rattle.lalrpop_collections.proofs.theory.sets.TokenSetLemmas.{seen_at}
use Rattle.lalrpop_grammar.proofs.lookahead.token_set.TokenSet.is_subset.Goals as goal

pub returns-clause-yes : goal.returns-clause-yes
returns-clause-yes c = λ h bit here.
    sym (seen_at c.words-2.result.now c.args.other.now bit c.words-2.ensures.view)
    ∙ c.are_within.ensures.yes h bit (seen_at c.words.result.now c.args.self.now bit c.words.ensures.view ∙ here)

pub returns-clause-no : goal.returns-clause-no
returns-clause-no c = λ h.
    let more = c.are_within.ensures.no h in (
      more.0,
      sym (seen_at c.words.result.now c.args.self.now more.0 c.words.ensures.view) ∙ more.1,
      sym (seen_at c.words-2.result.now c.args.other.now more.0 c.words-2.ensures.view) ∙ more.2,
    )

use Rattle.std.proofs.Common.{◌∙◌, sym}
use Rattle.std.proofs.lemmas.Bool.{not-true, not-false}
use Rattle.lalrpop_collections.proofs.theory.sets.TokenSetLemmas.{seen_at}
use Rattle.lalrpop_grammar.proofs.lookahead.token_set.TokenSet.is_disjoint.Goals as goal

pub returns-clause-yes : goal.returns-clause-yes
returns-clause-yes c = λ h bit here there.
    c.share_number.ensures.no (not-true _ h) bit
    (seen_at c.words.result.now c.args.self.now bit c.words.ensures.view ∙ here) (seen_at c.words-2.result.now c.args.other.now bit c.words-2.ensures.view ∙ there)

pub returns-clause-no : goal.returns-clause-no
returns-clause-no c = λ h.
    let shared = c.share_number.ensures.yes (not-false _ h) in (
      shared.0,
      sym (seen_at c.words.result.now c.args.self.now shared.0 c.words.ensures.view) ∙ shared.1,
      sym (seen_at c.words-2.result.now c.args.other.now shared.0 c.words-2.ensures.view) ∙ shared.2,
    )

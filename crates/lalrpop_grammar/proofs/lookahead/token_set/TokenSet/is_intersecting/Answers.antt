use Rattle.std.proofs.lemmas.Bool.{not-true, not-false}
use Rattle.lalrpop_grammar.proofs.lookahead.token_set.TokenSet.is_intersecting.Goals as goal

pub returns-clause-yes : goal.returns-clause-yes
returns-clause-yes c = λ h. c.is_disjoint.ensures.no (not-true _ h)

pub returns-clause-no : goal.returns-clause-no
returns-clause-no c = λ h. c.is_disjoint.ensures.yes (not-false _ h)

use Rattle.std.proofs.Common.{◌∙◌}
use Rattle.lalrpop_collections.proofs.theory.sets.BitVectorLemmas.{has-bits_of_words}
use Rattle.lalrpop_grammar.proofs.lookahead.token_set.TokenSet.below.Goals as goal

pub returns : goal.returns
returns c = λ q. has-bits_of_words c.in_ok-words_below.field-0.items q ∙ c.in_ok-words_below.ensures.each q

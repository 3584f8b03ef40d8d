use Rattle.std.proofs.Common.{◌∙◌, sym, ap, subst}
use Rattle.lalrpop_collections.specs.lists.BitVectors.{bits_of_words, IsBitVector}
use Rattle.lalrpop_collections.proofs.theory.sets.TokenSetLemmas.{no_words, no_words_vector}
use Rattle.lalrpop_grammar.proofs.lookahead.token_set.TokenSet.empty_set.Goals as goal

pub invariant_of-result : goal.invariant_of-result
invariant_of-result c = subst IsBitVector (sym c.new.ensures.items) no_words_vector

pub returns : goal.returns
returns c = ap bits_of_words c.new.ensures.items ∙ no_words

use Rattle.std.proofs.Common.{◌∙◌, sym, ap, subst}
use Rattle.lalrpop_collections.specs.lists.BitVectors.{bits_of_words, IsBitVector}
use Rattle.lalrpop_grammar.proofs.lookahead.token_set.TokenSet.words.Goals as goal

pub returns-clause-view : goal.returns-clause-view
returns-clause-view c = ap bits_of_words c.deref.ensures.value ∙ c.self.view_is

pub returns-clause-is : goal.returns-clause-is
returns-clause-is c = subst IsBitVector (sym c.deref.ensures.value) c.self.invariant

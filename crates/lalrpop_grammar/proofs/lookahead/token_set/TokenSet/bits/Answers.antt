use Rattle.std.proofs.Common.{◌∙◌, sym, ap, arith, length}
use Rattle.lalrpop_collections.specs.Words.{rising}
use Rattle.lalrpop_collections.proofs.theory.sets.BitVectorLemmas.{rising-bits_of_words, members-few}
use Rattle.lalrpop_grammar.proofs.lookahead.token_set.TokenSet.bits.Goals as goal

pub returns-clause-items : goal.returns-clause-items
returns-clause-items c = c.new.ensures ∙ sym (rising-bits_of_words c.words.result.now) ∙ ap rising c.words.ensures.view

pub returns-clause-small : goal.returns-clause-small
returns-clause-small c =
    let few = c.words.ensures.is.few in
    omega (arith, few, members-few c.words.result.now 0, ap length c.new.ensures)

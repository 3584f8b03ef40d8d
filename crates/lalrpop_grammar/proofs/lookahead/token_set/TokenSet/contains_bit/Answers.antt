use Rattle.std.proofs.Common.{◌≡◌, ◌∙◌, sym, arith, true}
use Rattle.lalrpop_collections.specs.lists.BitVectors.{has_bit}
use Rattle.lalrpop_collections.proofs.theory.sets.BitVectorLemmas.{has_bit-within}
use Rattle.lalrpop_collections.proofs.theory.sets.TokenSetLemmas.{seen_at}
use Rattle.lalrpop_grammar.proofs.lookahead.token_set.TokenSet.contains_bit.Goals as goal

pub returns-clause-has : goal.returns-clause-has
returns-clause-has c = c.has_number.ensures ∙ seen_at c.words.result.now c.args.self.now c.args.bit c.words.ensures.view

pub returns-clause-small : goal.returns-clause-small
returns-clause-small c = λ h.
    let there : has_bit c.words.result.now c.args.bit ≡ true = sym c.has_number.ensures ∙ h in
    let few = c.words.ensures.is.few in
    omega (arith, few, has_bit-within c.words.result.now c.args.bit there)

use Rattle.std.proofs.Common.{◌≡◌, ◌∙◌, ℕ, List, take, drop, ◌++◌, length, slice_index, sym, ap, arith, true}
use Rattle.std.proofs.lemmas.List.{with_items_is}
use Rattle.lalrpop_collections.specs.lists.BitVectors.{bits_of_words, has_bit}
use Rattle.lalrpop_collections.proofs.theory.sets.BitVectorLemmas.{has_bit-within}
use Rattle.lalrpop_collections.proofs.theory.sets.TokenSetLemmas.{seen_at, taken_set}
use Rattle.lalrpop_grammar.proofs.lookahead.token_set.TokenSet.take_bit.Goals as goal

pub take-requires : goal.take-requires
take-requires c =
    let xs = c.self.inside.words.items in
    let there : has_bit xs c.args.bit ≡ true = seen_at xs c.args.self.now c.args.bit c.self.view_is ∙ sym c.if-not-contains_bit.ensures.has in
    omega (arith, has_bit-within xs c.args.bit there, ap length c.deref_mut.ensures.value)

pub returns-clause-left : goal.returns-clause-left
returns-clause-left c =
    let ds = c.deref_mut.result.now in
    let ys = c.take.new.words in
    let whole : take c.self.inside.words.len (ys ++ drop (length ys) c.self.inside.words.items) ≡ ys = with_items_is c.self.inside.words ys (omega (arith, c.take.ensures.len, c.deref_mut.ensures.len)) in
    taken_set ds ys c.trim.new.words.items c.args.self.now c.args.bit (ap bits_of_words c.deref_mut.ensures.value ∙ c.self.view_is) c.take.ensures.taken
    (λ k. c.trim.ensures.same k ∙ ap (λ (ws : List ℕ). slice_index ws k) whole)

use Rattle.std.proofs.Common.{◌∙◌, ap, ℕ, fold}
use Rattle.std.specs.Hash as fed
use Rattle.lalrpop_collections.specs.lists.BitVectors.{folded}
use Rattle.lalrpop_collections.proofs.theory.sets.WordsOf.{words_of_set}
use Rattle.lalrpop_grammar.proofs.lookahead.token_set.TokenSetHash.hash.Goals as goal

pub returns : goal.returns
returns g c =
    c.hash.ensures
    ∙ ap (λ (w : ℕ). fold g.H.Hasher.write c.args.state.now (fed.u64 w)) (c.fold_words.ensures ∙ ap folded (words_of_set c.words.result.now c.args.self.now c.words.ensures.view c.words.ensures.is))

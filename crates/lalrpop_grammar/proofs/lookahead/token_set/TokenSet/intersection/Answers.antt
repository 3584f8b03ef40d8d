use Rattle.lalrpop_collections.proofs.theory.sets.TokenSetLemmas.{met_set}
use Rattle.lalrpop_grammar.proofs.lookahead.token_set.TokenSet.intersection.Goals as goal

pub returns : goal.returns
returns c =
    met_set c.words.result.now c.words-2.result.now c.in_ok-words.words.items c.trim.new.words.items c.args.self.now c.args.other.now c.words.ensures.view c.words-2.ensures.view
    c.in_ok-words.ensures.met c.trim.ensures.same

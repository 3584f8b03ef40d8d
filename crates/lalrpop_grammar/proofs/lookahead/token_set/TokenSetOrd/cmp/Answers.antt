use Rattle.std.proofs.Common.{◌∙◌, ap, List, ℕ}
use Rattle.std.specs.Ordering.{nat_cmp}
use Rattle.std.specs.Cmp.Lexicographic.{slice_cmp}
use Rattle.lalrpop_collections.specs.Words.{rising}
use Rattle.lalrpop_collections.specs.lists.BitVectors.{members_from}
use Rattle.lalrpop_collections.proofs.theory.sets.TokenSetLemmas.{members_rising}
use Rattle.lalrpop_grammar.proofs.lookahead.token_set.TokenSetOrd.cmp.Goals as goal

pub returns : goal.returns
returns c =
    c.compare.ensures
    ∙ ap (λ (xs : List ℕ). slice_cmp nat_cmp xs (members_from c.words-2.result.now 0)) (members_rising c.words.result.now c.args.self.now c.words.ensures.view)
    ∙ ap (slice_cmp nat_cmp (rising c.args.self.now)) (members_rising c.words-2.result.now c.args.other.now c.words-2.ensures.view)

use Rattle.std.proofs.Common.{refl, sym, ◌∙◌, ap, ℕ, slice_index}
use Rattle.std.proofs.lemmas.List.Sums.{fold_more}
use Rattle.lalrpop_collections.specs.lists.BitVectors.{mixed, folded}
use Rattle.lalrpop_collections.proofs.bit_vector.words.fold_words.Goals as goal

pub loop-word-init : goal.loop-word-init
unfolding folded
loop-word-init c = refl

pub loop-word-preserved : goal.loop-word-preserved
unfolding folded
loop-word-preserved c =
    c.folded_multiply-state.ensures
    ∙ ap (λ (state : ℕ). mixed state (slice_index c.args.words.now c.loop-word.word-index)) c.loop-word.invariant
    ∙ sym (fold_more mixed 0x243f_6a88_85a3_08d3 c.args.words.now c.loop-word.word-index 0 c.loop-word-test.true)

use Rattle.std.proofs.Common.{◌∙◌, ◌*◌, ◌/◌, ◌<◌, ℕ, arith, ap, slice_index, bit_and, length, w64}
use Rattle.std.specs.Int.{bit_not}
use Rattle.lalrpop_collections.proofs.theory.sets.BitVectorLemmas.{has_bit-within}
use Rattle.lalrpop_collections.proofs.theory.sets.WordLemmas.{bit_more, no_bit_more}
use Rattle.lalrpop_collections.proofs.bit_vector.words.are_within.Goals as goal

pub returns-then-left-place-ne0-clause-no : goal.returns-then-left-place-ne0-clause-no
returns-then-left-place-ne0-clause-no c = λ h.
    bit_more c.args.left.now c.args.right.now c.loop-place.place
    (λ e. c.if-left-place-ne0.true (ap (λ (w : ℕ). bit_and (slice_index c.args.left.now c.loop-place.place) (bit_not w64 w)) c.word_at.ensures.word ∙ e))
    (c.type_inv.left c.loop-place.place).fits (c.type_inv.right c.loop-place.place).fits

pub returns-clause-yes : goal.returns-clause-yes
returns-clause-yes c = λ h n here.
    let within : n < 64 * length c.args.left.now = has_bit-within c.args.left.now n here in
    no_bit_more c.args.left.now c.args.right.now n (c.loop-place.invariant (n / 64) (omega (arith, within, c.loop-place-test.false))) (c.type_inv.right (n / 64)).fits here

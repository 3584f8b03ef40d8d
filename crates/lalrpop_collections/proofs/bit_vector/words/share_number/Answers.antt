use Rattle.std.proofs.Common.{◌∙◌, ◌*◌, ◌/◌, ◌<◌, arith, ap, slice_index, bit_and, length}
use Rattle.lalrpop_collections.proofs.theory.sets.BitVectorLemmas.{has_bit-within}
use Rattle.lalrpop_collections.proofs.theory.sets.WordLemmas.{shared_bit, apart_words}
use Rattle.lalrpop_collections.proofs.bit_vector.words.share_number.Goals as goal

pub returns-then-left-place-ne0-clause-yes : goal.returns-then-left-place-ne0-clause-yes
returns-then-left-place-ne0-clause-yes c = λ h.
    shared_bit c.args.left.now c.args.right.now c.loop-place.place
    (λ e. c.if-left-place-ne0.true (ap (bit_and (slice_index c.args.left.now c.loop-place.place)) c.word_at.ensures.word ∙ e))
    (c.type_inv.left c.loop-place.place).fits

pub returns-clause-no : goal.returns-clause-no
returns-clause-no c = λ h n here there.
    let within : n < 64 * length c.args.left.now = has_bit-within c.args.left.now n here in
    apart_words c.args.left.now c.args.right.now n (c.loop-place.invariant (n / 64) (omega (arith, within, c.loop-place-test.false))) here there

use Rattle.std.proofs.Common.{◌∙◌, ◌≤◌, sym, arith, ⊎_elim, length}
use Rattle.std.proofs.lemmas.Bool.{cases_lt}
use Rattle.std.proofs.lemmas.List.{get_or_past}
use Rattle.lalrpop_collections.proofs.theory.sets.BitVectorLemmas.{same_lists}
use Rattle.lalrpop_collections.proofs.theory.sets.WordLemmas.{least_apart}
use Rattle.lalrpop_collections.proofs.bit_vector.words.least_difference.Goals as goal

pub returns-then-apart-ne0-clause-some : goal.returns-then-apart-ne0-clause-some
returns-then-apart-ne0-clause-some c =
    least_apart c.args.left.now c.args.right.now c.loop-place.place c.word_at.result c.word_at-in-loop-place.result c.word_at.ensures.word c.word_at-in-loop-place.ensures.word
    c.if-apart-ne0.true c.word_at.ensures.low c.word_at-in-loop-place.ensures.low c.loop-place.invariant

pub returns-clause-none : goal.returns-clause-none
returns-clause-none c = λ h.
    let left = c.args.left.now in
    let right = c.args.right.now in
    same_lists left right c.requires.left c.requires.right (λ k. ⊎_elim
    (λ l. c.loop-place.invariant k l)
    (λ l.
    let end = c.max-place-end.ensures in
    let past_left : length left ≤ k = omega (arith, end, l, c.loop-place-test.false) in
    let past_right : length right ≤ k = omega (arith, end, l, c.loop-place-test.false) in
    get_or_past left k 0 past_left ∙ sym (get_or_past right k 0 past_right))
    (cases_lt k c.loop-place.place))

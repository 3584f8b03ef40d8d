use Rattle.std.proofs.Common.{◌*◌, ◌≤◌, arith}
use Rattle.lalrpop_collections.proofs.theory.sets.WordLemmas.{later_least, later_none, none_left, least_within}
use Rattle.lalrpop_collections.proofs.bit_vector.words.least_from.Goals as goal

pub returns-then-is_some-clause-within : goal.returns-then-is_some-clause-within
returns-then-is_some-clause-within c = least_within c.args.words.now c.args.first c.least_beside-beside.result c.least_beside-beside.ensures.some

pub returns-then-words-place-ne0-clause-some : goal.returns-then-words-place-ne0-clause-some
returns-then-words-place-ne0-clause-some c =
    let below : c.args.first ≤ 64 * c.loop-place.place = omega (arith, c.loop-place.auto.place) in
    later_least c.args.words.now c.args.first c.loop-place.place below c.loop-place.invariant c.if-words-place-ne0.true (c.type_inv.words c.loop-place.place).fits

pub loop-place-preserved : goal.loop-place-preserved
loop-place-preserved c = later_none c.args.words.now c.args.first c.loop-place.place c.loop-place.invariant c.if-words-place-ne0.false

pub returns-clause-none : goal.returns-clause-none
returns-clause-none c = λ h. none_left c.args.words.now c.args.first c.loop-place.place c.loop-place.invariant (omega (arith, c.loop-place-test.false))

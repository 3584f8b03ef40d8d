use Rattle.std.proofs.Common.{◌+◌, ◌-◌, ◌*◌, ◌/◌, length, slice_index, w64, arith, ⊎_elim}
use Rattle.std.specs.Int.{trailing_zeros}
use Rattle.std.proofs.lemmas.Bool.{cases_lt}
use Rattle.lalrpop_collections.proofs.theory.sets.BitVectorLemmas.{lowest, has_bit-past}
use Rattle.lalrpop_collections.proofs.bit_vector.words.has_greater.Goals as goal

pub returns-then-number-words-clause-yes : goal.returns-then-number-words-clause-yes
returns-then-number-words-clause-yes c = λ h.
    let last = length c.args.words.now - 1 in
    let found = lowest c.args.words.now last (c.requires.trimmed last (omega (arith, c.if-number-words.true))) (c.requires.each last) in
    (64 * last + trailing_zeros w64 (slice_index c.args.words.now last), omega (arith, c.if-number-words.true), found.1)

pub returns-else-number-words-clause-no : goal.returns-else-number-words-clause-no
returns-else-number-words-clause-no c = λ h n l. ⊎_elim
    (λ near. c.has_greater_beside.ensures.no h n l near)
    (λ far. has_bit-past c.args.words.now n (omega (arith, c.if-number-words.false)))
    (cases_lt n (64 * (c.args.number / 64) + 64))

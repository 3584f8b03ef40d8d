use Rattle.std.proofs.Common.{◌∙◌, ◌≤◌, arith, ap, sym, ⊎_elim, slice_index, bit_or, length}
use Rattle.std.proofs.lemmas.Bool.{cases_lt}
use Rattle.std.proofs.lemmas.List.{get_or_past}
use Rattle.lalrpop_collections.proofs.theory.sets.WordLemmas.{or_zero}
use Rattle.lalrpop_collections.proofs.bit_vector.word_changes.join_words.Goals as goal

pub returns-clause-joined : goal.returns-clause-joined
returns-clause-joined c = λ k. ⊎_elim
    (λ l. c.loop-place.invariant.done k l)
    (λ l.
    let old = slice_index c.args.words.now k in
    let past : length c.args.other.now ≤ k = omega (arith, l, c.loop-place-test.false) in
    c.loop-place.invariant.rest k l ∙ sym (or_zero old) ∙ ap (bit_or old) (sym (get_or_past c.args.other.now k 0 past)))
    (cases_lt k c.loop-place.place)

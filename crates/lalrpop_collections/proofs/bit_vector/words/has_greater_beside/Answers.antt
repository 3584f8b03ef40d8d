use Rattle.std.proofs.Common.{◌≡◌, ◌∙◌, ℕ, ◌/◌, ◌%◌, ◌^◌, ◌<◌, ◌==◌, slice_index, sym, ap, subst, arith, eq-eqb, eqb-true}
use Rattle.std.proofs.lemmas.Bool.{not-true, not-false, true≢false}
use Rattle.lalrpop_collections.proofs.theory.sets.WordLemmas.{shifted_greater, shifted_no_greater}
use Rattle.lalrpop_collections.proofs.bit_vector.words.has_greater_beside.Goals as goal

pub returns-clause-yes : goal.returns-clause-yes
returns-clause-yes c = λ h.
    let rest = c.word_at.result / 2 ^ (c.args.number % 64) in
    let is : rest ≡ slice_index c.args.words.now (c.args.number / 64) / 2 ^ (c.args.number % 64) = ap (λ (v : ℕ). v / 2 ^ (c.args.number % 64)) c.word_at.ensures.word in
    let low : slice_index c.args.words.now (c.args.number / 64) < 2 ^ 64 = subst (λ (v : ℕ). v < 2 ^ 64) c.word_at.ensures.word c.word_at.ensures.low in
    shifted_greater c.args.words.now c.args.number rest is low (omega (arith, c.word_at.ensures.low))
    (λ e. true≢false (sym (eq-eqb (rest / 2) 0 e) ∙ not-true (rest / 2 == 0) h))

pub returns-clause-no : goal.returns-clause-no
returns-clause-no c = λ h.
    let rest = c.word_at.result / 2 ^ (c.args.number % 64) in
    let is : rest ≡ slice_index c.args.words.now (c.args.number / 64) / 2 ^ (c.args.number % 64) = ap (λ (v : ℕ). v / 2 ^ (c.args.number % 64)) c.word_at.ensures.word in
    shifted_no_greater c.args.words.now c.args.number rest is (eqb-true (rest / 2) 0 (not-false (rest / 2 == 0) h))

use Rattle.std.proofs.Common.{◌≡◌, ℕ, ◌/◌, ◌%◌, ◌^◌, ◌<◌, slice_index, ap, subst, arith}
use Rattle.lalrpop_collections.proofs.theory.sets.WordLemmas.{shifted_least, shifted_none}
use Rattle.lalrpop_collections.proofs.bit_vector.words.least_beside.Goals as goal

pub returns-then-rest-eq0-clause-none : goal.returns-then-rest-eq0-clause-none
returns-then-rest-eq0-clause-none c = λ h.
    let rest = c.word_at.result / 2 ^ (c.args.first % 64) in
    let is : rest ≡ slice_index c.args.words.now (c.args.first / 64) / 2 ^ (c.args.first % 64) = ap (λ (v : ℕ). v / 2 ^ (c.args.first % 64)) c.word_at.ensures.word in
    shifted_none c.args.words.now c.args.first rest is c.if-rest-eq0.true

pub returns-clause-some : goal.returns-clause-some
returns-clause-some c =
    let rest = c.word_at.result / 2 ^ (c.args.first % 64) in
    let is : rest ≡ slice_index c.args.words.now (c.args.first / 64) / 2 ^ (c.args.first % 64) = ap (λ (v : ℕ). v / 2 ^ (c.args.first % 64)) c.word_at.ensures.word in
    let low : slice_index c.args.words.now (c.args.first / 64) < 2 ^ 64 = subst (λ (v : ℕ). v < 2 ^ 64) c.word_at.ensures.word c.word_at.ensures.low in
    shifted_least c.args.words.now c.args.first rest is low c.if-rest-eq0.false (omega (arith, c.word_at.ensures.low))

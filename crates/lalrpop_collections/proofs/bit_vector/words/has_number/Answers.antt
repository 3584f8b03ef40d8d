use Rattle.std.proofs.Common.{◌∙◌, ℕ, ◌/◌, ◌%◌, ◌^◌, ◌==◌, bit_and, slice_index, sym, ap}
use Rattle.std.proofs.lemmas.Nat.Bits.{shr_and_one}
use Rattle.lalrpop_collections.proofs.theory.sets.BitVectorLemmas.{has_bit-is}
use Rattle.lalrpop_collections.proofs.bit_vector.words.has_number.Goals as goal

pub returns : goal.returns
returns c =
    let w = slice_index c.args.words.now (c.args.number / 64) in
    ap (λ (v : ℕ). bit_and (v / 2 ^ (c.args.number % 64)) 1 == 1) c.word_at.ensures.word
    ∙ ap (λ (b : ℕ). b == 1) (shr_and_one w (c.args.number % 64)) ∙ sym (has_bit-is c.args.words.now c.args.number)

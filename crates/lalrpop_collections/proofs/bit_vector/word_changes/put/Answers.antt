use Rattle.std.proofs.Common.{◌∙◌, ◌*◌, ◌/◌, ◌%◌, ◌^◌, ap, arith, slice_index, bit_or}
use Rattle.std.proofs.lemmas.List.{get_or-set_same}
use Rattle.std.proofs.lemmas.Nat.{one_shl}
use Rattle.lalrpop_collections.proofs.theory.sets.WordLemmas.{put_bit, put_some}
use Rattle.lalrpop_collections.proofs.bit_vector.word_changes.put.Goals as goal

pub returns-clause-put : goal.returns-clause-put
returns-clause-put c = put_bit c.args.words.now c.args.number c.requires

pub returns-clause-there : goal.returns-clause-there
returns-clause-there c = put_some c.args.words.now c.args.number c.requires

pub returns-clause-word : goal.returns-clause-word
returns-clause-word c =
    let old = slice_index c.args.words.now (c.args.number / 64) in
    get_or-set_same c.args.words.now (c.args.number / 64) (bit_or old (1 * 2 ^ (c.args.number % 64) % 2 ^ 64)) 0 c.requires
    ∙ ap (bit_or old) (one_shl (c.args.number % 64) 64 (omega arith))

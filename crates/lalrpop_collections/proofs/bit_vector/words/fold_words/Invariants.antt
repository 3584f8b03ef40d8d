use Rattle.std.proofs.Common.{◌≡◌, take}
use Rattle.lalrpop_collections.specs.lists.BitVectors.{folded}
use Rattle.lalrpop_collections.proofs.bit_vector.words.fold_words.Given as goal

abbrev pub invariant-loop-word : goal.invariant-loop-word
invariant-loop-word l = l.state ≡ folded (take l.word-index l.words)

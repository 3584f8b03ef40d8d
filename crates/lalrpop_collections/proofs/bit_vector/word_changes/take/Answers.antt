use Rattle.lalrpop_collections.proofs.theory.sets.WordLemmas.{take_bit}
use Rattle.lalrpop_collections.proofs.bit_vector.word_changes.take.Goals as goal

pub returns-clause-taken : goal.returns-clause-taken
returns-clause-taken c = take_bit c.args.words.now c.args.number c.requires

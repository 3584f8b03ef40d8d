use Rattle.lalrpop_construction_tests.specs.WordMoves.{IsWordOf}
use Rattle.lalrpop_construction_tests.proofs.word_lookahead.build.word_of.Given as goal

abbrev pub invariant-loop-bit : goal.invariant-loop-bit
invariant-loop-bit l = IsWordOf l.set l.bit l.word

use Rattle.lalrpop_useful.specs.Words.{NoneBelow}
use Rattle.lalrpop_useful.proofs.repeats.first_below.Given as goal

abbrev pub invariant-loop-place : goal.invariant-loop-place
invariant-loop-place l = NoneBelow l.productions l.symbols l.place

use Rattle.lalrpop_grammar.proofs.theory.first.FirstLists.{FirstSoFar}
use Rattle.lalrpop_grammar.proofs.first.FirstSets.first0.Given as goal

abbrev pub invariant-loop-symbol : goal.invariant-loop-symbol
invariant-loop-symbol l = FirstSoFar l.self l.symbols l.set l.symbol-index

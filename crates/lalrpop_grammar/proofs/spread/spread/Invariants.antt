use Rattle.lalrpop_collections.proofs.theory.lists.Spreading.{SpreadSoFar, left_to_spread}
use Rattle.lalrpop_grammar.proofs.spread.spread.Given as goal

abbrev pub invariant-loop-from : goal.invariant-loop-from
invariant-loop-from l = SpreadSoFar l.fn.sets.items l.edges l.sets.items l.waiting

abbrev pub decreases-loop-from : goal.decreases-loop-from
decreases-loop-from l = left_to_spread l.fn.sets.items l.edges l.sets.items l.waiting

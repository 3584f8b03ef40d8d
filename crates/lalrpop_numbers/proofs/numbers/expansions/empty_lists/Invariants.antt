use Rattle.lalrpop_numbers.specs.Words.{AreEmpty, lists_of}
use Rattle.lalrpop_numbers.proofs.numbers.expansions.empty_lists.Given as goal

abbrev pub invariant-loop-place : goal.invariant-loop-place
invariant-loop-place l = AreEmpty l._place (lists_of l.lists.items)

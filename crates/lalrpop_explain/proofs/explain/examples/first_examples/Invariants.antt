use Rattle.lalrpop_explain.proofs.theory.explained.FirstPaths.{IsListing}
use Rattle.lalrpop_explain.proofs.explain.examples.first_examples.Given as goal

abbrev pub invariant-loop-left : goal.invariant-loop-left
invariant-loop-left l = IsListing l.fn.most l.initial.walk l.walk l.left l.examples.items

abbrev pub decreases-loop-left : goal.decreases-loop-left
decreases-loop-left l = l.left

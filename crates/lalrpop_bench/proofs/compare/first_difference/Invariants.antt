use Rattle.std.proofs.Common.{length}
use denote.Text.{Utf8}
use denote.Shadow.{shadow}
use Rattle.lalrpop_bench.proofs.compare.first_difference.Given as goal

abbrev pub invariant-loop-x : goal.invariant-loop-x
invariant-loop-x l = shadow (Utf8 l.left) × shadow (Utf8 l.right)

abbrev pub decreases-loop-x : goal.decreases-loop-x
decreases-loop-x l = length l.left

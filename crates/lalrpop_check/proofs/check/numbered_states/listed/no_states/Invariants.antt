use Rattle.std.proofs.Common.{◌≡◌, replicate, None}
use Rattle.lalrpop_check.proofs.check.numbered_states.listed.no_states.Given as goal

abbrev pub invariant-loop-place : goal.invariant-loop-place
invariant-loop-place l = l.list.items ≡ replicate l._place None

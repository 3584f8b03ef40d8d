use Rattle.std.proofs.Common.{◌≡◌, ◌++◌, drop}
use Rattle.lalrpop_construction_tests.specs.WordConflicts.{word_reduce_conflicts}
use Rattle.lalrpop_construction_tests.proofs.word_lookahead.conflicts.add_reduce_conflicts.Given as goal

abbrev pub invariant-loop-place : goal.invariant-loop-place
invariant-loop-place l = l.list.items ++ word_reduce_conflicts l.state (drop l.place l.reductions) ≡ l.fn.list.items ++ word_reduce_conflicts l.state l.reductions

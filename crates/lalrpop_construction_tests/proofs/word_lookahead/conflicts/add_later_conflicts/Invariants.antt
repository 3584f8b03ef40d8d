use Rattle.std.proofs.Common.{◌≡◌, ◌++◌, take}
use Rattle.lalrpop_construction_tests.specs.WordConflicts.{word_later_conflicts}
use Rattle.lalrpop_construction_tests.proofs.word_lookahead.conflicts.add_later_conflicts.Given as goal

abbrev pub invariant-loop-other : goal.invariant-loop-other
invariant-loop-other l = l.list.items ≡ l.fn.list.items ++ word_later_conflicts l.state l.reduction (take l.other-index l.later)

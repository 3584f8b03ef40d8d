use Rattle.std.proofs.Common.{◌≡◌, ◌++◌, take}
use Rattle.lalrpop_construction_tests.specs.WordConflicts.{word_conflicts_on_bit}
use Rattle.lalrpop_construction_tests.proofs.word_lookahead.conflicts.add_conflicts_on.Given as goal

abbrev pub invariant-loop-reduction : goal.invariant-loop-reduction
invariant-loop-reduction l = l.list.items ≡ l.fn.list.items ++ word_conflicts_on_bit l.state l.terminal l.target (take l.reduction-index l.reductions) l.bit

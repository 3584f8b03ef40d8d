use Rattle.std.proofs.Common.{◌≡◌, ◌++◌}
use Rattle.std.specs.List.{flat_map}
use Rattle.lalrpop_construction_tests.specs.WordConflicts.{word_shift_conflicts}
use Rattle.lalrpop_construction_tests.proofs.word_lookahead.conflicts.add_shift_conflicts.Given as goal

abbrev pub invariant-loop-terminal : goal.invariant-loop-terminal
invariant-loop-terminal l =
    l.list.items ++ flat_map (word_shift_conflicts l.terminals l.state l.reductions) l.terminal-iterator
    ≡ l.fn.list.items ++ flat_map (word_shift_conflicts l.terminals l.state l.reductions) l.shifts.entries

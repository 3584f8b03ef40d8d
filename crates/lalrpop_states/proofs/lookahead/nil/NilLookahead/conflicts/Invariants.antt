use Rattle.std.proofs.Common.{◌≡◌, ◌++◌}
use Rattle.lalrpop_states.specs.Words.{nil_shift_conflicts}
use Rattle.lalrpop_states.proofs.lookahead.nil.NilLookahead.conflicts.Given as goal

abbrev pub invariant-loop-terminal : goal.invariant-loop-terminal
invariant-loop-terminal l =
    l.list.items ++ nil_shift_conflicts l.state.index l.state.reductions.items l.terminal-iterator
    ≡ nil_shift_conflicts l.state.index l.state.reductions.items l.state.shifts.entries

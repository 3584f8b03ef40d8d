use Rattle.std.proofs.Common.{◌++◌, ◌∙◌, sym, ap}
use Rattle.lalrpop_construction_tests.specs.WordConflicts.{word_conflicts_on_place}
use Rattle.lalrpop_states.proofs.theory.conflicts.ConflictLemmas.{bit_is_place}
use Rattle.lalrpop_construction_tests.proofs.WordConflictLemmas.{shift_more}
use Rattle.lalrpop_construction_tests.proofs.word_lookahead.conflicts.add_shift_conflicts.Goals as goal

pub loop-terminal-preserved : goal.loop-terminal-preserved
loop-terminal-preserved c =
    let t = c.in-Some.terminal.now in
    let place = bit_is_place c.args.terminals.now t c.bit-bit.result c.bit-bit.ensures.found c.bit-bit.ensures.only in
    shift_more c.args.terminals.now c.args.state c.args.reductions.now c.loop-terminal.list.items c.add_conflicts_on.new.list.items c.args.list.now.items c.args.shifts.now.entries c.loop-terminal.terminal-iterator
    c.next.new.self (t, c.in-Some.target.now) c.in-Some.ensures.steps c.loop-terminal.invariant
    (c.in_ok-add_conflicts_on.ensures ∙ ap (λ o. c.loop-terminal.list.items ++ word_conflicts_on_place c.args.state t c.in-Some.target.now c.args.reductions.now o) (sym place))

use Rattle.std.proofs.Common.{◌+◌, ◌∙◌, ap, arith, sym}
use Rattle.lalrpop_states.specs.Words.{shift_conflict_count}
use Rattle.lalrpop_states.proofs.theory.conflicts.ConflictCounts.{no_shift_conflict, shifts_more}
use Rattle.lalrpop_states.proofs.lr1_core.conflict_counts.count_shift_conflicts.Goals as goal

pub returns-in_err-count : goal.returns-in_err-count
returns-in_err-count c =
    let whole = shifts_more c.args.terminals.now c.args.reductions.now c.loop-terminal.count c.count_on_place.result _ c.loop-terminal.terminal-iterator c.next.new.self c.in-Some.terminal.now c.in-Some.field-0-1.now
    c.bit.result c.in-Some.ensures.steps c.bit.ensures.found c.bit.ensures.only c.count_on_place.ensures c.loop-terminal.invariant.left in
    rw c.from_residual.ensures (λ small. c.in_err-count.ensures (omega (arith, whole, small)))

pub loop-terminal-preserved : goal.loop-terminal-preserved
loop-terminal-preserved c =
    let whole = shifts_more c.args.terminals.now c.args.reductions.now c.loop-terminal.count c.count_on_place.result _ c.loop-terminal.terminal-iterator c.next.new.self c.in-Some.terminal.now c.in-Some.field-0-1.now
    c.bit.result c.in-Some.ensures.steps c.bit.ensures.found c.bit.ensures.only c.count_on_place.ensures c.loop-terminal.invariant.left in
    let sum = c.in_ok-count.ensures in
    record { within = omega (arith, sum.0, sum.1); left = ap (λ n. n + shift_conflict_count c.args.terminals.now c.args.reductions.now c.next.new.self) sum.1 ∙ whole }

pub returns : goal.returns
returns c =
    let rest = ap (λ ys. shift_conflict_count c.args.terminals.now c.args.reductions.now ys) c.in-None.ensures.steps.0 in
    let left = c.loop-terminal.invariant.left in
    let within = c.loop-terminal.invariant.within in
    (omega (arith, rest, left, within), omega (arith, rest, left))

pub returns-then-is_empty : goal.returns-then-is_empty
returns-then-is_empty c =
    let none = no_shift_conflict c.args.terminals.now c.args.reductions.now c.args.shifts.now.entries (sym c.is_empty.ensures ∙ c.if-is_empty.true) in
    (omega (arith, none), sym none)

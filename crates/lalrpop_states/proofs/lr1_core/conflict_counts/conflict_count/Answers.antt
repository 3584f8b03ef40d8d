use Rattle.std.proofs.Common.{◌≡◌, ◌+◌, ◌<◌, ◌^◌, ℕ, length, subst, arith, refl}
use Rattle.std.specs.Prelude.{SomeIff}
use Rattle.lalrpop_states.specs.Words.{state_conflicts}
use Rattle.lalrpop_states.proofs.theory.conflicts.ConflictCounts.{all_counted}
use Rattle.lalrpop_states.proofs.lr1_core.conflict_counts.conflict_count.Goals as goal

pub returns-in_err-shifts : goal.returns-in_err-shifts
returns-in_err-shifts c =
    let whole = all_counted c.args.terminals.now c.args.state.now c.deref.result.now c.args.state.now.reductions.items c.deref.ensures.value refl in
    record { count = rw c.from_residual.ensures (λ small. c.in_err-shifts.ensures (omega (arith, whole, small))) }

pub returns-in_err-reduces : goal.returns-in_err-reduces
returns-in_err-reduces c =
    let whole = all_counted c.args.terminals.now c.args.state.now c.deref.result.now c.deref-2.result.now c.deref.ensures.value c.deref-2.ensures.value in
    record { count = rw c.from_residual-in_err-reduces.ensures (λ small. c.in_err-reduces.ensures (omega (arith, whole, small))) }

pub returns : goal.returns
returns c =
    let whole = all_counted c.args.terminals.now c.args.state.now c.deref.result.now c.deref-2.result.now c.deref.ensures.value c.deref-2.ensures.value in
    let shifts = c.in_ok-shifts.ensures in
    let reduces = c.in_ok-reduces.ensures in
    let sum : c.in_ok-shifts.shifts + c.in_ok-reduces.reduces ≡ length (state_conflicts c.args.terminals.now c.args.state.now) = omega (arith, whole, shifts.1, reduces.1) in
    record { count = subst (λ (n : ℕ). SomeIff c.checked_add.result (n < 2 ^ 64) n) sum c.checked_add.ensures }

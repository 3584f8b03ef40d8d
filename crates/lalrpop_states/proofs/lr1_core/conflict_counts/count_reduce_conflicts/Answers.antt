use Rattle.std.proofs.Common.{◌+◌, ◌∙◌, ap, arith, drop, refl}
use Rattle.std.proofs.lemmas.Option.{slice_get_read}
use Rattle.std.proofs.lemmas.List.{at_drop_all}
use Rattle.lalrpop_states.specs.Words.{reduce_conflict_count}
use Rattle.lalrpop_states.proofs.theory.conflicts.ConflictCounts.{reductions_more}
use Rattle.lalrpop_states.proofs.lr1_core.conflict_counts.count_reduce_conflicts.Goals as goal

pub returns-in_err-count : goal.returns-in_err-count
returns-in_err-count c =
    let whole = reductions_more c.args.reductions.now c.index-reductions-place.result c.loop-place.place c.loop-place.count c.count_later.result _
    (slice_get_read _ _ _ _ refl c.loop-place-test.true c.index-reductions-place.is) c.count_later.ensures c.loop-place.invariant.left in
    rw c.from_residual.ensures (λ small. c.in_err-count.ensures (omega (arith, whole, small)))

pub loop-place-preserved : goal.loop-place-preserved
loop-place-preserved c =
    let whole = reductions_more c.args.reductions.now c.index-reductions-place.result c.loop-place.place c.loop-place.count c.count_later.result _
    (slice_get_read _ _ _ _ refl c.loop-place-test.true c.index-reductions-place.is) c.count_later.ensures c.loop-place.invariant.left in
    let sum = c.in_ok-count.ensures in
    record { within = omega (arith, sum.0, sum.1); left = ap (λ n. n + reduce_conflict_count (drop (c.loop-place.place + 1) c.args.reductions.now)) sum.1 ∙ whole }

pub returns : goal.returns
returns c =
    let rest = at_drop_all reduce_conflict_count c.args.reductions.now c.loop-place.place c.loop-place-test.false in
    let left = c.loop-place.invariant.left in
    let within = c.loop-place.invariant.within in
    (omega (arith, rest, left, within), omega (arith, rest, left))

use Rattle.std.proofs.Common.{◌+◌, ◌-◌, drop}
use Rattle.std.specs.Prelude.{get_or, length}
use Rattle.std.proofs.lemmas.List.{at_drop_all}
use Rattle.canonical_by_number.specs.Conflicts.{reduce_conflicts_of}
use Rattle.canonical_by_number.proofs.Closures.{entry_among}
use Rattle.canonical_by_number.proofs.CountedConflicts.{Counts-all, Counts-more, Counts-none, Reduce-more, sets_among}
use Rattle.canonical_by_number.proofs.conflicts.add_reduce_conflicts.Goals as goal

pub loop-place-init : goal.loop-place-init
loop-place-init c = Counts-none (reduce_conflicts_of c.args.numbers.now c.args.sets.now c.args.finished.now) c.args.old

pub count_later-requires-clause-tokens : goal.count_later-requires-clause-tokens
count_later-requires-clause-tokens c = c.requires (get_or c.args.finished.now c.loop-place.place (0, 0)) (entry_among c.args.finished.now c.loop-place.place c.loop-place-test.true)

pub count_later-requires-clause-later : goal.count_later-requires-clause-later
count_later-requires-clause-later c = sets_among c.args.sets.now c.args.finished.now (length c.args.finished.now - (c.loop-place.place + 1)) (c.loop-place.place + 1) c.requires

pub loop-place-preserved : goal.loop-place-preserved
loop-place-preserved c =
    let n = c.args.numbers.now in
    let sets = c.args.sets.now in
    let finished = c.args.finished.now in
    let place = c.loop-place.place in
    let all = reduce_conflicts_of n sets in
    Counts-more (all (drop (place + 1) finished)) (all (drop place finished)) (all finished) c.args.old c.loop-place.count c.count_later.result c.saturating_add-count.result c.loop-place.invariant c.saturating_add-count.ensures
    (Reduce-more n sets finished place c.count_later.result c.loop-place-test.true c.count_later.ensures)

pub returns : goal.returns
returns c =
    let all = reduce_conflicts_of c.args.numbers.now c.args.sets.now in
    Counts-all (all c.args.finished.now) c.args.old c.loop-place.count (all (drop c.loop-place.place c.args.finished.now)) c.loop-place.invariant (at_drop_all all c.args.finished.now c.loop-place.place c.loop-place-test.false)

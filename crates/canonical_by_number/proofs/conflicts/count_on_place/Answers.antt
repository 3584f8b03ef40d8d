use Rattle.std.proofs.Common.{◌∙◌, ℕ, Option, ap, sym}
use Rattle.lalrpop_states.specs.conflicts.ConflictCounts.{count_on_place}
use Rattle.canonical_by_number.specs.Conflicts.{reductions_in}
use Rattle.canonical_by_number.proofs.CountedConflicts.{held_count}
use Rattle.canonical_by_number.proofs.conflicts.count_on_place.Goals as goal

pub returns : goal.returns
returns c =
    let n = c.args.numbers.now in
    let sets = c.args.sets.now in
    let finished = c.args.finished.now in
    c.count_on_bit.ensures ∙ held_count n sets c.in-Some.bit finished ∙ ap (λ (o : Option ℕ). count_on_place (reductions_in n sets finished) o) (sym c.in-Some.is)

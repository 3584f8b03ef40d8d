use Rattle.canonical_by_number.specs.Conflicts.{reduce_conflicts_of, shift_conflicts_of}
use Rattle.canonical_by_number.proofs.CountedConflicts.{Counts-then}
use Rattle.canonical_by_number.proofs.conflicts.add_conflicts.Goals as goal

pub returns : goal.returns
returns c = λ terminals are.
    Counts-then (shift_conflicts_of c.args.numbers.now c.args.sets.now terminals c.args.finished.now c.args.edges.now) (reduce_conflicts_of c.args.numbers.now c.args.sets.now c.args.finished.now) c.args.old c.add_shift_conflicts-count.result c.add_reduce_conflicts.result (c.add_shift_conflicts-count.ensures terminals are) c.add_reduce_conflicts.ensures

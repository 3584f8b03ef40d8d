use Rattle.std.proofs.Common.{refl}
use Rattle.lalrpop_lanes.proofs.lane_table.context_set.ContextSet.apply.Goals as goal

pub returns-clause-applied : goal.returns-clause-applied
returns-clause-applied c =
    let took = rw c.deref.ensures.value at c.in_ok-reductions.ensures in
    record { index = refl; items = refl; shifts = refl; gotos = refl; counted = took.counted; each = took.each }

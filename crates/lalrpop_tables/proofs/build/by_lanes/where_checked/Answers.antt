use Rattle.std.proofs.Common.{◌∙◌, ap, sym}
use Rattle.lalrpop_tables.proofs.Types.{Nil}
use Rattle.lalrpop_construction.specs.Words.{Construction}
use Rattle.lalrpop_tables.proofs.build.by_lanes.where_checked.Goals as goal

pub check_over-requires-clause-coherent : goal.check_over-requires-clause-coherent
check_over-requires-clause-coherent c = rw c.deref.ensures.value c.requires.coherent

pub check_over-requires-clause-rules : goal.check_over-requires-clause-rules
check_over-requires-clause-rules c = ap (λ (k : Construction Nil). k.rules) c.requires.ready.over

pub check_over-requires-clause-start : goal.check_over-requires-clause-start
check_over-requires-clause-start c = ap (λ (k : Construction Nil). k.start) c.requires.ready.over ∙ sym c.in_ok-start.ensures

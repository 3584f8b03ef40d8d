use Rattle.lalrpop_base.specs.Words.{EachBelow}
use Rattle.lalrpop_check.specs.check.ByNumber.{LeadsOnByNumber}
use Rattle.lalrpop_check.proofs.check.by_number.leading.lead_on.Given as goal

abbrev pub invariant-loop-item : goal.invariant-loop-item
invariant-loop-item l = EachBelow (LeadsOnByNumber l.numbers l.states l.state.edges.items) l.item-items l.item-index

use Rattle.lalrpop_base.specs.Words.{EachBelow}
use Rattle.lalrpop_check.specs.check.ByNumber.{ItemsLeadOn}
use Rattle.lalrpop_check.proofs.check.by_number.leading.all_lead_on.Given as goal

abbrev pub invariant-loop-state : goal.invariant-loop-state
invariant-loop-state l = EachBelow (ItemsLeadOn l.numbers l.states) l.states l.state-index

use Rattle.lalrpop_base.specs.Words.{EachBelow, Bits, LeadsFrom}
use Rattle.lalrpop_check.proofs.Types.{State}
use Rattle.lalrpop_check.proofs.check.by_number.reached.lead_to_first.Given as goal

abbrev pub invariant-loop-state : goal.invariant-loop-state
invariant-loop-state l = EachBelow (λ (s : State Bits). LeadsFrom s 0 → ⊥) l.states l.state-index

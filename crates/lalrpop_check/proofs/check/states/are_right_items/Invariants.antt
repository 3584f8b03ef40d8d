use Rattle.lalrpop_base.specs.Words.{Bits, EachBelow, Dotted, IsRightItem}
use Rattle.lalrpop_states.specs.states.CheckStates.{productions_of_reductions}
use Rattle.lalrpop_check.proofs.check.states.are_right_items.Given as goal

abbrev pub invariant-loop-item : goal.invariant-loop-item
invariant-loop-item l = EachBelow (λ (i : Dotted Bits). IsRightItem l.listed l.state (productions_of_reductions l.state.reductions.items) i) l.item-items l.item-index

use Rattle.lalrpop_states.specs.Words.{IsAlikeTo}
use Rattle.lalrpop_collections.specs.Words.{EachItem, EachBelow}
use Rattle.lalrpop_states.proofs.Types.{State}
use Rattle.lalrpop_states.proofs.lr1_core.collapsible.are_all_alike.Given as goal

abbrev pub invariant-loop-state : goal.invariant-loop-state
invariant-loop-state g l = EachBelow (λ (a : State g.row.L.Denot). EachItem (IsAlikeTo l.states a) l.states) l.states l.state-index

use Rattle.lalrpop_states.specs.conflicts.StateConflicts.{IsConflictFree}
use Rattle.lalrpop_collections.specs.Words.{Bits, EachBelow}
use Rattle.lalrpop_states.proofs.Types.{State}
use Rattle.lalrpop_states.proofs.lr1_core.all_conflicts.have_no_conflict.Given as goal

abbrev pub invariant-loop-state : goal.invariant-loop-state
invariant-loop-state l = EachBelow (λ (s : State Bits). IsConflictFree l.terminals s) l.states l.state-index

use Rattle.lr1_theory.proofs.theory.closures.Closures.{reached_states, have_right_items}
use Rattle.lr1_theory.proofs.theory.states.Lr0.{closed_lr0}
use Rattle.lr1_theory.proofs.theory.states.Copies.{copies_closed}
use Rattle.lr1_theory.proofs.laws.closed_states.Goals as goal

pub returns-clause-reached : goal.returns-clause-reached
returns-clause-reached c = reached_states

pub returns-clause-right : goal.returns-clause-right
returns-clause-right c = have_right_items

pub returns-clause-lr0 : goal.returns-clause-lr0
returns-clause-lr0 c = closed_lr0

pub returns-clause-copies : goal.returns-clause-copies
returns-clause-copies c = copies_closed

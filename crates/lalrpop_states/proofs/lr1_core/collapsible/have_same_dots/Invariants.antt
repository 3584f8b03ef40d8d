use Rattle.lalrpop_states.proofs.theory.states.DotLemmas.{AgreeBelow}
use Rattle.lalrpop_states.proofs.lr1_core.collapsible.have_same_dots.Given as goal

abbrev pub invariant-loop-place : goal.invariant-loop-place
invariant-loop-place g l = AgreeBelow l.a l.b l.place

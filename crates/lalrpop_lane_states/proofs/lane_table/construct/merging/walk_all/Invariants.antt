use Rattle.lalrpop_lane_states.specs.Words.{Advances, HaveWalked}
use Rattle.lalrpop_collections.proofs.theory.lists.EachLemmas.{HoldsSoFar}
use Rattle.lalrpop_lane_states.proofs.lane_table.construct.merging.walk_all.Given as goal

abbrev pub invariant-loop-state : goal.invariant-loop-state
invariant-loop-state l =
    (goal.iterator-loop-state).can_next l.state-iterator ×
    (goal.iterator-loop-state).is_finite l.state-iterator ×
    HoldsSoFar (λ done. Advances l.initial.merge l.merge × HaveWalked done l.initial.merge l.merge) l.state-iterator l.states.keys

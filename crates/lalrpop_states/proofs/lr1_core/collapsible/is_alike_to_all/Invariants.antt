use Rattle.lalrpop_states.specs.Words.{IsAlikeTo}
use Rattle.lalrpop_collections.specs.Words.{EachBelow}
use Rattle.lalrpop_states.proofs.lr1_core.collapsible.is_alike_to_all.Given as goal

abbrev pub invariant-loop-other : goal.invariant-loop-other
invariant-loop-other g l = EachBelow (IsAlikeTo l.states l.state) l.states l.other-index

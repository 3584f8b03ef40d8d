use Rattle.lalrpop_base.specs.Words.{EachBelow}
use Rattle.lalrpop_tables.specs.Words.{IsOrderedState}
use Rattle.lalrpop_tables.proofs.build_lalr.order.read_order.Given as goal

abbrev pub invariant-loop-state : goal.invariant-loop-state
invariant-loop-state l = EachBelow IsOrderedState l.states l.state-index

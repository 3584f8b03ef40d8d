use Rattle.std.proofs.Common.{take}
use Rattle.lalrpop_states.specs.states.CheckStates.{AreListed}
use Rattle.lalrpop_check.proofs.check.states.listed_states.Given as goal

abbrev pub invariant-loop-state : goal.invariant-loop-state
invariant-loop-state l = AreListed (take l.state-index l.states) l.listed.items

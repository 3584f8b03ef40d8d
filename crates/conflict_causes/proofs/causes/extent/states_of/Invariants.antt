use Rattle.std.proofs.Common.{take}
use Rattle.conflict_causes.specs.Extents.{AreCauseStates}
use Rattle.conflict_causes.proofs.causes.extent.states_of.Given as goal

abbrev pub invariant-loop-number : goal.invariant-loop-number
invariant-loop-number l = AreCauseStates l.conflicts (take l.number-index l.numbers) l.set.keys

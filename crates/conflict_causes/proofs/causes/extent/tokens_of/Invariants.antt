use Rattle.std.proofs.Common.{take}
use Rattle.conflict_causes.specs.Extents.{AreCauseTokens}
use Rattle.conflict_causes.proofs.causes.extent.tokens_of.Given as goal

abbrev pub invariant-loop-number : goal.invariant-loop-number
invariant-loop-number l = AreCauseTokens l.conflicts (take l.number-index l.numbers) l.set

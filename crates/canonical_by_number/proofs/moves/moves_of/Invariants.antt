use Rattle.std.proofs.Common.{take}
use Rattle.canonical_by_number.specs.Closures.{entries_in}
use Rattle.canonical_by_number.specs.Kernels.{AreMovesIn}
use Rattle.canonical_by_number.proofs.moves.moves_of.Given as goal

abbrev pub invariant-loop-entry : goal.invariant-loop-entry
invariant-loop-entry l = AreMovesIn l.numbers l.sets (entries_in l.sets (take l.entry-index l.list)) l.moves

use Rattle.std.proofs.Common.{take}
use Rattle.lalrpop_construction.specs.Words.{parts_in}
use Rattle.lalrpop_states.specs.closures.Closure.{itself}
use Rattle.canonical_by_number.specs.Closures.{GathersNumbers, kernel_in}
use Rattle.canonical_by_number.proofs.closure.gather_kernel.Given as goal

abbrev pub invariant-loop-packed : goal.invariant-loop-packed
invariant-loop-packed l = GathersNumbers (parts_in itself (kernel_in l.fn.sets (take l.packed-index l.kernel))) l.fn.sets l.sets l.fn.table l.table

use Rattle.std.proofs.Common.{◌≡◌, take}
use Rattle.lalrpop_base.specs.Words.{items_by}
use Rattle.canonical_by_number.specs.Closures.{PropagatesNumbers, kernel_in}
use Rattle.canonical_by_number.proofs.closure.propagate_kernel.Given as goal

abbrev pub invariant-loop-packed : goal.invariant-loop-packed
invariant-loop-packed l = record {
  limit : l.queue.limit ≡ l.fn.queue.limit;
  shares : PropagatesNumbers l.lr.construction.rules l.numbers (items_by l.numbers.items.items (kernel_in l.fn.sets (take l.packed-index l.kernel))) l.fn.sets l.sets l.fn.shared l.shared l.fn.queue.numbers l.queue.numbers;
}

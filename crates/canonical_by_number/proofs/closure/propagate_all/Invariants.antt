use Rattle.std.proofs.Common.{◌≤◌, length}
use Rattle.lalrpop_base.specs.Words.{items_by, readings}
use Rattle.canonical_by_number.specs.TokenSets.{AreSetsIn, KeepsNumbers, set_at}
use Rattle.canonical_by_number.specs.Closures.{IsNumberedPropagation, kernel_in}
use Rattle.lalrpop_construction.proofs.theory.closures.Propagation.{work}
use Rattle.canonical_by_number.proofs.closure.propagate_all.Given as goal

abbrev pub invariant-loop-symbol : goal.invariant-loop-symbol
invariant-loop-symbol l = record {
  limit : length l.numbers.symbols.items ≤ l.queue.limit;
  kept : KeepsNumbers l.fn.sets l.sets;
  known : AreSetsIn l.sets l.shared;
  sharing : IsNumberedPropagation l.lr.construction.rules l.numbers (items_by l.numbers.items.items (kernel_in l.fn.sets l.kernel)) l.sets l.shared l.queue.numbers;
}

abbrev pub decreases-loop-symbol : goal.decreases-loop-symbol
decreases-loop-symbol l = work l.lr.construction.rules l.numbers (readings (set_at l.sets) l.shared) l.queue.numbers

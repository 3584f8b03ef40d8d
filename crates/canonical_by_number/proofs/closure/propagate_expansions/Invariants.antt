use Rattle.std.proofs.Common.{◌≡◌, take}
use Rattle.lalrpop_base.specs.Words.{items_by}
use Rattle.lalrpop_construction.specs.Words.{expansions_in}
use Rattle.canonical_by_number.specs.TokenSets.{set_at}
use Rattle.canonical_by_number.specs.Closures.{PropagatesNumbers}
use Rattle.canonical_by_number.proofs.closure.propagate_expansions.Given as goal

abbrev pub invariant-loop-number : goal.invariant-loop-number
invariant-loop-number l = record {
  limit : l.queue.limit ≡ l.fn.queue.limit;
  shares : PropagatesNumbers l.lr.construction.rules l.numbers (items_by l.numbers.items.items (expansions_in (set_at l.fn.sets l.tokens) (take l.number-index l.expansions))) l.fn.sets l.sets l.fn.shared l.shared l.fn.queue.numbers l.queue.numbers;
}

use Rattle.std.proofs.Common.{◌≡◌, length}
use Rattle.lalrpop_collections.proofs.collections.queue.Queue.take_all.Given as goal

abbrev pub invariant-loop : goal.invariant-loop
invariant-loop l = l.self.limit ≡ l.fn.self.limit

abbrev pub decreases-loop : goal.decreases-loop
decreases-loop l = length l.self.numbers

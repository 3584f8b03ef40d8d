use Rattle.std.proofs.Common.{◌≡◌, ◌<◌, ◌≤◌, ℕ, true, length}
use Rattle.lalrpop_collections.specs.Words.{waits}
use Rattle.lalrpop_collections.proofs.collections.queue.Queue.full.Given as goal

abbrev pub invariant-loop-number : goal.invariant-loop-number
invariant-loop-number l = record { limit : l.queue.limit ≡ l.fn.limit; all : (k : ℕ) → k < l.number → waits l.queue.numbers k ≡ true; few : length l.queue.numbers ≤ l.queue.limit }

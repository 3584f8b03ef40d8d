use Rattle.lalrpop_collections.proofs.theory.collections.Queues.{Marked-none, no_mark}
use Rattle.lalrpop_collections.proofs.collections.queue.Queue.new.Goals as goal

pub invariant_of-result : goal.invariant_of-result
invariant_of-result c = Marked-none _ _ c.new.ensures.items (no_mark _ c.new-2.ensures.items)

use Rattle.std.proofs.Common.{◌∙◌}
use Rattle.lalrpop_collections.proofs.theory.collections.Queues.{waits_below}
use Rattle.lalrpop_collections.proofs.collections.queue.Queue.full.Goals as goal

pub loop-number-preserved : goal.loop-number-preserved
loop-number-preserved c = record {
  limit = c.in_ok-add.ensures.limit ∙ c.loop-number.invariant.limit;
  all = waits_below _ _ _ c.in_ok-add.ensures.added c.loop-number.invariant.all;
  few = c.in_ok-add.ensures.few;
}

use Rattle.std.proofs.Common.{take}
use Rattle.lalrpop_base.specs.Words.{Sends, IsPlaceAtStart}
use Rattle.lalrpop_check.proofs.check.carrying.send_productions.Given as goal

abbrev pub invariant-loop-production : goal.invariant-loop-production
invariant-loop-production l = Sends (IsPlaceAtStart l.state (take l.production-index l.production-items)) l.tokens l.fn.table.entries l.table.entries l.fn.queue.items l.queue.items

use Rattle.std.proofs.Common.{◌≡◌, take, map}
use Rattle.lalrpop_base.specs.Words.{item_at_start}
use Rattle.lalrpop_construction.proofs.construction.lr.items_at_start.Given as goal

abbrev pub invariant-loop-production : goal.invariant-loop-production
invariant-loop-production g l = l.items.items ≡ map (item_at_start l.lookahead) (take l.production-index l.production-items)

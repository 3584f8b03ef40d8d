use Rattle.std.proofs.Common.{◌≡◌, map, take}
use Rattle.lalrpop_base.specs.Words.{AreNumbered, items_by, item_at_start}
use Rattle.lalrpop_construction.proofs.construction.lr.numbered_starts.Given as goal

abbrev pub invariant-loop-production : goal.invariant-loop-production
invariant-loop-production g l = record {
  known : AreNumbered l.fn.numbers.items.items l.items;
  made : items_by l.fn.numbers.items.items l.items ≡ map (item_at_start l.fn.lookahead) (take l.production-index l.production-items);
}

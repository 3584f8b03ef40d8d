use Rattle.std.proofs.Common.{◌≡◌, take, map}
use Rattle.lalrpop_base.specs.Words.{items_by, meant, readings}
use Rattle.lalrpop_construction.specs.Words.{Propagates}
use Rattle.lalrpop_construction.proofs.construction.closure.propagate_kernel.Given as goal

abbrev pub invariant-loop-item : goal.invariant-loop-item
invariant-loop-item g l = record {
  limit : l.queue.limit ≡ l.fn.queue.limit;
  shares : Propagates g.L.LookaheadBuild.begins g.L.LookaheadBuild.passes l.lr.construction.rules l.numbers (map (meant g.L.Lookahead.meaning) (items_by l.numbers.items.items (take l.item-index l.kernel)))
      (readings g.L.Lookahead.meaning l.fn.shared) (readings g.L.Lookahead.meaning l.shared) l.fn.queue.numbers l.queue.numbers;
}

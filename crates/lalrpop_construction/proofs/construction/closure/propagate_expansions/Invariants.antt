use Rattle.std.proofs.Common.{◌≡◌, take}
use Rattle.lalrpop_base.specs.Words.{items_by, readings}
use Rattle.lalrpop_construction.specs.Words.{Propagates, expansions_in}
use Rattle.lalrpop_construction.proofs.construction.closure.propagate_expansions.Given as goal

abbrev pub invariant-loop-number : goal.invariant-loop-number
invariant-loop-number g l = record {
  limit : l.queue.limit ≡ l.fn.queue.limit;
  shares : Propagates g.L.LookaheadBuild.begins g.L.LookaheadBuild.passes l.lr.construction.rules l.numbers (items_by l.numbers.items.items (expansions_in (g.L.Lookahead.meaning l.tokens) (take l.number-index l.expansions)))
      (readings g.L.Lookahead.meaning l.fn.shared) (readings g.L.Lookahead.meaning l.shared) l.fn.queue.numbers l.queue.numbers;
}

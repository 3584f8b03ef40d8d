use Rattle.std.proofs.Common.{◌≤◌, length, map}
use Rattle.lalrpop_base.specs.Words.{items_by, meant, readings}
use Rattle.lalrpop_construction.specs.Words.{IsPropagation}
use Rattle.lalrpop_construction.proofs.theory.closures.Propagation.{work}
use Rattle.lalrpop_construction.proofs.construction.closure.propagate_all.Given as goal

abbrev pub invariant-loop-symbol : goal.invariant-loop-symbol
invariant-loop-symbol g l = record {
  limit : length l.numbers.symbols.items ≤ l.queue.limit;
  sharing : IsPropagation g.L.LookaheadBuild.begins g.L.LookaheadBuild.passes l.lr.construction.rules l.numbers (map (meant g.L.Lookahead.meaning) (items_by l.numbers.items.items l.kernel)) (readings g.L.Lookahead.meaning l.shared) l.queue.numbers;
}

abbrev pub decreases-loop-symbol : goal.decreases-loop-symbol
decreases-loop-symbol g l = work l.lr.construction.rules l.numbers (readings g.L.Lookahead.meaning l.shared) l.queue.numbers

use Rattle.std.proofs.Common.{◌≡◌, take, map}
use Rattle.lalrpop_base.specs.Words.{reductions_of, seen_reduction}
use Rattle.lalrpop_construction.proofs.construction.reductions.reductions.Given as goal

abbrev pub invariant-loop-item : goal.invariant-loop-item
invariant-loop-item g l = map seen_reduction l.reductions.items ≡ reductions_of (take l.item-index l.items)

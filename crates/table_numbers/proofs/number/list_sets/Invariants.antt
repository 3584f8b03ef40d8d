use Rattle.std.proofs.Common.{◌≡◌, ◌++◌, drop, map}
use Rattle.lalrpop_base.specs.Words.{rising}
use Rattle.table_numbers.proofs.number.list_sets.Given as goal

abbrev pub invariant-loop-set : goal.invariant-loop-set
invariant-loop-set l = l.list ++ map rising (drop l.set-index l.sets) ≡ map rising l.sets

use Rattle.std.proofs.Common.{◌≡◌, ◌++◌}
use Rattle.table_pictures.specs.EdgePairs.{target_pairs}
use Rattle.table_pictures.proofs.edge_pairs.push_targets.Given as goal

abbrev pub invariant-loop-target : goal.invariant-loop-target
invariant-loop-target g l = l.pairs.items ++ target_pairs l.limit l.from l.target-iterator ≡ l.fn.pairs.items ++ target_pairs l.limit l.from l.targets.entries

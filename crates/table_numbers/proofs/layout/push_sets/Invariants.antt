use Rattle.std.proofs.Common.{◌≡◌, ◌++◌, drop}
use Rattle.std.specs.List.{flat_map}
use Rattle.table_numbers.specs.Layout.{set_block}
use Rattle.table_numbers.proofs.layout.push_sets.Given as goal

abbrev pub invariant-loop-set : goal.invariant-loop-set
invariant-loop-set l = l.out.items ++ flat_map set_block (drop l.set-index l.sets) ≡ l.fn.out.items ++ flat_map set_block l.sets

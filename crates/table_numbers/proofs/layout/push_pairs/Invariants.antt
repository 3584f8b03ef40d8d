use Rattle.std.proofs.Common.{◌≡◌, ◌++◌, drop}
use Rattle.table_numbers.specs.Layout.{pair_numbers}
use Rattle.table_numbers.proofs.layout.push_pairs.Given as goal

abbrev pub invariant-loop-name : goal.invariant-loop-name
invariant-loop-name l = l.out.items ++ pair_numbers (drop l.name-index l.pairs) ≡ l.fn.out.items ++ pair_numbers l.pairs

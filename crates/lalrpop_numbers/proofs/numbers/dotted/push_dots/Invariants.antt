use Rattle.std.proofs.Common.{◌≡◌, ◌++◌, map}
use Rattle.std.specs.List.{range_with_len}
use Rattle.lalrpop_states.specs.Words.{with_dot}
use Rattle.lalrpop_numbers.proofs.numbers.dotted.push_dots.Given as goal

abbrev pub invariant-loop-index : goal.invariant-loop-index
invariant-loop-index l = l.items.items ≡ l.fn.items.items ++ map (with_dot l.production) (range_with_len 0 l.index)

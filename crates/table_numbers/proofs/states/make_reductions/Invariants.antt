use Rattle.std.proofs.Common.{◌≡◌, ◌++◌, drop, map}
use Rattle.table_numbers.specs.Made.{borrowed}
use Rattle.table_numbers.specs.Numbered.{reduction_at, reduction_parts}
use Rattle.table_numbers.proofs.states.make_reductions.Given as goal

abbrev pub invariant-loop-number : goal.invariant-loop-number
invariant-loop-number l = map reduction_parts l.reductions.items ++ map (reduction_at (borrowed l.productions) l.sets) (drop l.number-index l.pairs) ≡ map (reduction_at (borrowed l.productions) l.sets) l.pairs

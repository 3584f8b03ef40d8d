use Rattle.std.proofs.Common.{◌≡◌, ◌++◌, drop, map}
use Rattle.lalrpop_base.specs.Words.{bits_of}
use Rattle.table_numbers.proofs.states.make_sets.Given as goal

abbrev pub invariant-loop-place : goal.invariant-loop-place
invariant-loop-place l = l.made.items ++ map bits_of (drop l.place l.sets) ≡ map bits_of l.sets

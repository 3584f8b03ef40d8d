use Rattle.std.proofs.Common.{◌≡◌, map, take}
use Rattle.table_numbers.specs.Lists.{named, side_of}
use Rattle.table_numbers.proofs.states.are_sides.Given as goal

abbrev pub invariant-loop-place : goal.invariant-loop-place
invariant-loop-place l = named l.nonterminals (take l.place l.sides) ≡ map side_of (take l.place l.productions)

use Rattle.std.proofs.Common.{◌≡◌, ◌++◌, drop, map}
use Rattle.table_numbers.specs.Lists.{named, side_of}
use Rattle.table_numbers.proofs.names.list_sides.Given as goal

abbrev pub invariant-loop-production : goal.invariant-loop-production
invariant-loop-production l = named l.nonterminals l.sides ++ map side_of (drop l.production-index l.productions) ≡ map side_of l.productions

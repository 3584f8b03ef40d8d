use Rattle.std.proofs.Common.{◌≡◌, ◌++◌, map}
use Rattle.table_numbers.specs.Lists.{named}
use Rattle.table_numbers.specs.Numbered.{named_target}
use Rattle.table_numbers.proofs.number.number_targets.Given as goal

abbrev pub invariant-loop-name : goal.invariant-loop-name
invariant-loop-name g l = named l.names l.pairs ++ map named_target l.name-iterator ≡ map named_target l.targets.entries

use Rattle.std.proofs.Common.{◌≡◌, ◌++◌, drop}
use Rattle.table_numbers.proofs.names.add_productions.Given as goal

abbrev pub invariant-loop-production : goal.invariant-loop-production
invariant-loop-production l = l.numbering ++ drop l.production-index l.productions ≡ l.fn.numbering ++ l.productions

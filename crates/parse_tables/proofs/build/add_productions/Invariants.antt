use Rattle.std.proofs.Common.{◌≡◌, ◌++◌, drop}
use Rattle.parse_tables.proofs.build.add_productions.Given as goal

abbrev pub invariant-loop-production : goal.invariant-loop-production
invariant-loop-production l = l.numbering ++ drop l.production-index l.productions ≡ l.fn.numbering ++ l.productions

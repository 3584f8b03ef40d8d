use Rattle.std.proofs.Common.{take}
use Rattle.lalrpop_numbers.specs.Words.{AddsThose, IsStartOf}
use Rattle.lalrpop_numbers.proofs.numbers.dotted.add_starts.Given as goal

abbrev pub invariant-loop-production : goal.invariant-loop-production
invariant-loop-production l = AddsThose (IsStartOf (take l.production-index l.productions)) l.fn.starts.keys l.starts.keys

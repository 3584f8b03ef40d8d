use Rattle.any_start_parser.proofs.Numbers.{NoneWithin}
use Rattle.any_start_parser.proofs.production.production_from.Given as goal

abbrev pub invariant-loop-number : goal.invariant-loop-number
invariant-loop-number l = NoneWithin l.productions l.name l.from l.number

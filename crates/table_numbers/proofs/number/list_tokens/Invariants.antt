use Rattle.std.proofs.Common.{◌≡◌, ◌++◌}
use Rattle.lalrpop_base.specs.Words.{rising}
use Rattle.table_numbers.proofs.number.list_tokens.Given as goal

abbrev pub invariant-loop-bit : goal.invariant-loop-bit
invariant-loop-bit l = l.tokens ++ l.bit-iterator ≡ rising l.set

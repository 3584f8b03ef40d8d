use Rattle.std.proofs.Common.{◌≡◌, ◌++◌, string_bytes}
use Rattle.conflict_causes.specs.CauseTexts.{cause_numbers}
use Rattle.conflict_causes.proofs.text.lines.push_numbers.Given as goal

abbrev pub invariant-loop-number : goal.invariant-loop-number
invariant-loop-number l = string_bytes l.text ++ cause_numbers l.number-iterator ≡ string_bytes l.fn.text ++ cause_numbers l.numbers.keys

use Rattle.std.proofs.Common.{◌≡◌, drop}
use Rattle.std.specs.Str.{all_ascii_digits}
use Rattle.program_answers.proofs.words.are_digits.Given as goal

-- the bytes so far are digits, so all bytes are digits if those that are left are
abbrev pub invariant-loop-b : goal.invariant-loop-b
invariant-loop-b l = all_ascii_digits (drop l.b-index l.bytes) ≡ all_ascii_digits l.bytes

use Rattle.std.proofs.Common.{◌≡◌, ◌++◌, drop}
use Rattle.std.specs.Prelude.{string_bytes}
use Rattle.file_parts.specs.Lines.{rest_of}
use Rattle.file_parts.proofs.numbers.push_rest.Given as goal

abbrev pub invariant-loop-number : goal.invariant-loop-number
invariant-loop-number l = string_bytes l.text ++ rest_of l.indent l.column (drop l.number-index l.numbers) ≡ string_bytes l.fn.text ++ rest_of l.indent l.fn.column l.numbers

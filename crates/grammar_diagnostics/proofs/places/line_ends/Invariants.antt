use Rattle.std.proofs.Common.{◌≡◌, ◌≤◌, ◌+◌, length, drop}
use Rattle.std.specs.Prelude.{filter}
use Rattle.grammar_diagnostics.specs.Places.{is_line_end}
use Rattle.grammar_diagnostics.proofs.places.line_ends.Given as goal

-- the line ends so far, and those among the bytes that are left
abbrev pub invariant-loop-byte : goal.invariant-loop-byte
invariant-loop-byte l = (l.count + length (filter is_line_end (drop l.byte-index l.bytes)) ≡ length (filter is_line_end l.bytes)) × (l.count ≤ l.byte-index)

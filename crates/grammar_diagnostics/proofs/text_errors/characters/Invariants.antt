use Rattle.std.proofs.Common.{◌≡◌, ◌≤◌, ◌+◌, length, drop}
use Rattle.std.specs.Prelude.{filter}
use Rattle.grammar_diagnostics.specs.TextErrors.{starts_character}
use Rattle.grammar_diagnostics.proofs.text_errors.characters.Given as goal

-- the characters so far, and those of the bytes that are left
abbrev pub invariant-loop-byte : goal.invariant-loop-byte
invariant-loop-byte l = (l.count + length (filter starts_character (drop l.byte-index l.bytes)) ≡ length (filter starts_character l.bytes)) × (l.count ≤ l.byte-index)

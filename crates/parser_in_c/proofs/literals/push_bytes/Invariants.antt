use Rattle.std.proofs.Common.{◌≡◌, ◌++◌, drop, string_bytes}
use Rattle.std.specs.List.{flat_map}
use Rattle.parser_in_c.specs.Literals.{byte_text}
use Rattle.parser_in_c.proofs.literals.push_bytes.Given as goal

-- the literal so far and what the rest gives are those of all
abbrev pub invariant-loop-byte : goal.invariant-loop-byte
invariant-loop-byte l = string_bytes l.literal ++ flat_map byte_text (drop l.byte-index l.bytes) ≡ string_bytes l.fn.literal ++ flat_map byte_text l.bytes

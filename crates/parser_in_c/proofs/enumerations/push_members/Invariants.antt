use Rattle.std.proofs.Common.{◌≡◌, ◌++◌, drop, string_bytes}
use Rattle.parser_in_c.specs.Enumerations.{members_text}
use Rattle.parser_in_c.proofs.enumerations.push_members.Given as goal

-- the text so far and the lines of the rest are those of all
abbrev pub invariant-loop-number : goal.invariant-loop-number
invariant-loop-number l = string_bytes l.text ++ members_text l.big l.letter (drop l.number l.constants) ≡ string_bytes l.fn.text ++ members_text l.big l.letter l.constants

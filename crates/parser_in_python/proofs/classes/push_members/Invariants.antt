use Rattle.std.proofs.Common.{◌≡◌, ◌++◌, drop, string_bytes}
use Rattle.parser_in_python.specs.Classes.{members_from}
use Rattle.parser_in_python.proofs.classes.push_members.Given as goal

-- the text so far and the lines of the rest are those of all
abbrev pub invariant-loop-number : goal.invariant-loop-number
invariant-loop-number l = string_bytes l.text ++ members_from l.number (drop l.number l.constants) ≡ string_bytes l.fn.text ++ members_from 0 l.constants

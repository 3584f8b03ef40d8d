use Rattle.std.proofs.Common.{◌≡◌, ◌++◌, string_bytes, take}
use Rattle.std.specs.List.{flat_map}
use Rattle.parser_in_python.specs.Tables.{literal_line}
use Rattle.parser_in_python.proofs.tables.push_literals.Given as goal

abbrev pub invariant-loop-literal : goal.invariant-loop-literal
invariant-loop-literal l = string_bytes l.text ≡ string_bytes l.fn.text ++ flat_map literal_line (take l.literal-index l.literals)

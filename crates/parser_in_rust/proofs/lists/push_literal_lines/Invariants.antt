use Rattle.std.proofs.Common.{◌≡◌, ◌++◌, string_bytes, take}
use Rattle.std.specs.List.{flat_map}
use Rattle.parser_in_rust.specs.Lists.{literal_line}
use Rattle.parser_in_rust.proofs.lists.push_literal_lines.Given as goal

abbrev pub invariant-loop-literal : goal.invariant-loop-literal
invariant-loop-literal l = string_bytes l.text ≡ string_bytes l.fn.text ++ flat_map literal_line (take l.literal-index l.literals)

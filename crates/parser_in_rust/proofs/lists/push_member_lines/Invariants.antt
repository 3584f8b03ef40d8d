use Rattle.std.proofs.Common.{◌≡◌, ◌++◌, string_bytes, take}
use Rattle.std.specs.List.{flat_map}
use Rattle.parser_in_rust.specs.Lists.{member_line}
use Rattle.parser_in_rust.proofs.lists.push_member_lines.Given as goal

abbrev pub invariant-loop-constant : goal.invariant-loop-constant
invariant-loop-constant l = string_bytes l.text ≡ string_bytes l.fn.text ++ flat_map (member_line l.kind) (take l.constant-index l.constants)

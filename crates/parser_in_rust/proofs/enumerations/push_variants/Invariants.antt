use Rattle.std.proofs.Common.{◌≡◌, ◌++◌, string_bytes, take}
use Rattle.std.specs.List.{flat_map}
use Rattle.parser_in_rust.specs.Enumerations.{variant_lines}
use Rattle.parser_in_rust.proofs.enumerations.push_variants.Given as goal

abbrev pub invariant-loop-constant : goal.invariant-loop-constant
invariant-loop-constant l = string_bytes l.text ≡ string_bytes l.fn.text ++ flat_map variant_lines (take l.constant-index l.constants)

use Rattle.std.proofs.Common.{◌≡◌, ◌++◌, string_bytes, take}
use Rattle.std.specs.List.{flat_map}
use Rattle.parser_in_rust.specs.Arrays.{array_value}
use Rattle.parser_in_rust.proofs.arrays.push_values.Given as goal

abbrev pub invariant-loop-array : goal.invariant-loop-array
invariant-loop-array l = string_bytes l.text ≡ string_bytes l.fn.text ++ flat_map array_value (take l.array-index l.arrays)

use Rattle.std.proofs.Common.{◌≡◌, ◌++◌, string_bytes}
use Rattle.std.specs.Str.{IsUtf8}
use Rattle.std.specs.Str.Iter.{chars_rest}
use Rattle.file_parts.specs.Fixed.{fixed_text}
use Rattle.file_parts.proofs.fixed.push_fixed.Given as goal

-- the text so far and that of the rest are the text of all
abbrev pub invariant-loop-c : goal.invariant-loop-c
invariant-loop-c l =
    IsUtf8 (chars_rest l.c-iterator) × (string_bytes l.text ++ fixed_text l.small l.big (chars_rest l.c-iterator) ≡ string_bytes l.fn.text ++ fixed_text l.small l.big l.fixed)

use Rattle.std.proofs.Common.{◌≡◌, ◌++◌, string_bytes}
use Rattle.std.specs.List.{flat_map}
use Rattle.std.specs.Str.{IsUtf8, chars}
use Rattle.std.specs.Str.Iter.{chars_rest}
use Rattle.parser_in_rust.specs.Literals.{char_text}
use Rattle.parser_in_rust.proofs.literals.push_chars.Given as goal

-- the text so far and that of the rest are the text of all
abbrev pub invariant-loop-c : goal.invariant-loop-c
invariant-loop-c l =
    IsUtf8 (chars_rest l.c-iterator) × (string_bytes l.literal ++ flat_map char_text (chars (chars_rest l.c-iterator)) ≡ string_bytes l.fn.literal ++ flat_map char_text (chars l.text))

use Rattle.std.proofs.Common.{◌≡◌, ◌++◌, string_bytes}
use Rattle.std.specs.Str.{IsUtf8}
use Rattle.std.specs.Str.Iter.{chars_rest}
use Rattle.parse_pictures.specs.TreeGraphs.{quoted_text}
use Rattle.parse_pictures.proofs.escape.push_quoted.Given as goal

-- the text so far and that of the rest are the text of all
abbrev pub invariant-loop-c : goal.invariant-loop-c
invariant-loop-c l =
    IsUtf8 (chars_rest l.c-iterator) × (string_bytes l.text ++ quoted_text (chars_rest l.c-iterator) ≡ string_bytes l.fn.text ++ quoted_text l.shown)

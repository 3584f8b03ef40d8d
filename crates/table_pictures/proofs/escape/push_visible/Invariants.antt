use Rattle.std.proofs.Common.{◌≡◌, ◌++◌, string_bytes}
use Rattle.std.specs.Str.{IsUtf8}
use Rattle.std.specs.Str.Iter.{chars_rest}
use Rattle.table_pictures.specs.Escape.{pictured_text}
use Rattle.table_pictures.proofs.escape.push_visible.Given as goal

-- the text so far and that of the rest are the text of all
abbrev pub invariant-loop-c : goal.invariant-loop-c
invariant-loop-c l =
    IsUtf8 (chars_rest l.c-iterator) × (string_bytes l.text ++ pictured_text (chars_rest l.c-iterator) ≡ string_bytes l.fn.text ++ pictured_text l.shown)

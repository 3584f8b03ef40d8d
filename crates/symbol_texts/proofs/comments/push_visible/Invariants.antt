use Rattle.std.proofs.Common.{◌≡◌, ◌++◌, string_bytes}
use Rattle.std.specs.Str.{IsUtf8}
use Rattle.std.specs.Str.Iter.{chars_rest}
use Rattle.symbol_texts.specs.Comments.{visible_text}
use Rattle.symbol_texts.proofs.comments.push_visible.Given as goal

-- the text so far and that of the rest are the text of all
abbrev pub invariant-loop-c : goal.invariant-loop-c
invariant-loop-c l =
    IsUtf8 (chars_rest l.c-iterator) × (string_bytes l.text ++ visible_text (chars_rest l.c-iterator) ≡ string_bytes l.fn.text ++ visible_text l.shown)

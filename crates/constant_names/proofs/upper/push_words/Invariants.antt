use Rattle.std.proofs.Common.{◌≡◌, ◌++◌, string_bytes}
use Rattle.std.specs.Str.{IsUtf8, chars}
use Rattle.std.specs.Str.Iter.{chars_rest}
use Rattle.constant_names.specs.Upper.{upper_from}
use Rattle.constant_names.proofs.upper.push_words.Given as goal

-- the text so far and the words of the rest are the text of all
abbrev pub invariant-loop-c : goal.invariant-loop-c
invariant-loop-c l =
    IsUtf8 (chars_rest l.c-iterator) × (string_bytes l.text ++ upper_from l.before l.more (chars (chars_rest l.c-iterator)) ≡ string_bytes l.fn.text ++ upper_from 95 l.fn.more (chars l.name))

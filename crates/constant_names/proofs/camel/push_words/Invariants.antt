use Rattle.std.proofs.Common.{◌≡◌, ◌++◌, string_bytes}
use Rattle.std.specs.Str.{IsUtf8, chars}
use Rattle.std.specs.Str.Iter.{chars_rest}
use Rattle.constant_names.specs.Camel.{camel_from}
use Rattle.constant_names.proofs.camel.push_words.Given as goal

-- the text so far and the words of the rest are the text of all
abbrev pub invariant-loop-c : goal.invariant-loop-c
invariant-loop-c l =
    IsUtf8 (chars_rest l.c-iterator) × (string_bytes l.text ++ camel_from l.before (chars (chars_rest l.c-iterator)) ≡ string_bytes l.fn.text ++ camel_from 95 (chars l.name))

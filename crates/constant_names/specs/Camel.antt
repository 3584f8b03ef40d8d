-- The words of a text, each of which begins with a capital.
use Rattle.std.specs.Prelude.{ℕ, Bool, ◌==◌, if◌then◌else◌, List, [], ◌∷◌, ◌++◌, codes}
use Rattle.std.specs.Char.{encode_utf8, to_ascii_lowercase, to_ascii_uppercase}
use Rattle.std.specs.Str.{chars}
use Rattle.constant_names.specs.CamelSigns.{camel_sign}
use Rattle.constant_names.specs.Words.{begins, has_word, is_letter}

-- what a character other than an underscore gives to a name: its capital at the beginning of a word,
-- its small letter in it, or the word of a sign
abbrev pub camel_letters : Bool → ℕ → List ℕ
camel_letters is_first c = if is_letter c then encode_utf8 (if is_first then to_ascii_uppercase c else to_ascii_lowercase c) else camel_sign c

-- what a character adds to a name after another one
abbrev pub next_camel : ℕ → ℕ → List ℕ
next_camel before c = if c == 95 then [] else camel_letters (begins before c) c

-- the words of characters after another one
abbrev pub camel_from : ℕ → List ℕ → List ℕ
camel_from before [] = []
camel_from before (c ∷ cs) = next_camel before c ++ camel_from c cs

-- the words of a text
abbrev pub camel_text : List ℕ → List ℕ
camel_text text = if has_word text then camel_from 95 (chars text) else codes "Underscore"

-- The words of a text in capitals, with underscores between them.
use Rattle.std.specs.Prelude.{ℕ, Bool, ◌&&◌, ◌||◌, ◌==◌, if◌then◌else◌, List, [], ◌∷◌, ◌++◌, codes}
use Rattle.std.specs.Char.{encode_utf8, to_ascii_uppercase}
use Rattle.std.specs.Str.{chars}
use Rattle.constant_names.specs.Signs.{upper_sign}
use Rattle.constant_names.specs.Words.{begins, has_word, is_letter, is_word_part}

-- what a character other than an underscore gives to a name: its capital, or the word of a sign
abbrev pub upper_letters : ℕ → List ℕ
upper_letters c = if is_letter c then encode_utf8 (to_ascii_uppercase c) else upper_sign c

-- an underscore before a word that comes after others
abbrev pub separator : Bool → List ℕ
separator more = if more then codes "_" else []

-- what a character adds to a name after another one, and after words if `more`
abbrev pub next_upper : ℕ → Bool → ℕ → List ℕ
next_upper before more c = if c == 95 then [] else separator (more && begins before c) ++ upper_letters c

-- the words of characters after another one, and after words if `more`
abbrev pub upper_from : ℕ → Bool → List ℕ → List ℕ
upper_from before more [] = []
upper_from before more (c ∷ cs) = next_upper before more c ++ upper_from c (more || is_word_part c) cs

-- the words of a text, after other words if `more`
abbrev pub upper_text : Bool → List ℕ → List ℕ
upper_text more text = if has_word text then upper_from 95 more (chars text) else separator more ++ codes "UNDERSCORE"

-- Facts on the words of a text, each of which begins with a capital.
use Rattle.std.proofs.Common.{◌≡◌, ℕ, List, [], ◌++◌, length, ap, ◌∙◌}
use Rattle.std.proofs.lemmas.List.{nil_from_length}
use Rattle.std.proofs.lemmas.Str.{chars_past_char, chars-nil}
use Rattle.std.specs.Char.{encode_utf8}
use Rattle.std.specs.Str.{IsUtf8, chars}
use Rattle.constant_names.specs.Camel.{camel_from, next_camel}

-- the words of a text are what its first character adds, and then those of the rest
pub camel_more : (before : ℕ) (bs rest : List ℕ) (c : ℕ) → IsUtf8 bs → bs ≡ encode_utf8 c ++ rest → camel_from before (chars bs) ≡ next_camel before c ++ camel_from c (chars rest)
camel_more before bs rest c text e = ap (camel_from before) (chars_past_char bs rest c text e)

-- an empty text has no words
pub camel_nil : (before : ℕ) (bs : List ℕ) → length bs ≡ 0 → camel_from before (chars bs) ≡ []
camel_nil before bs none = ap (λ (it : List ℕ). camel_from before (chars it)) (nil_from_length bs none) ∙ ap (camel_from before) chars-nil

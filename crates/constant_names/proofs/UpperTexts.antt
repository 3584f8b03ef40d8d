-- Facts on the words of a text in capitals.
use Rattle.std.proofs.Common.{◌≡◌, ℕ, Bool, ◌||◌, List, [], ◌++◌, length, ap, ◌∙◌}
use Rattle.std.proofs.lemmas.List.{nil_from_length}
use Rattle.std.proofs.lemmas.Str.{chars_past_char, chars-nil}
use Rattle.std.specs.Char.{encode_utf8}
use Rattle.std.specs.Str.{IsUtf8, chars}
use Rattle.constant_names.specs.Upper.{next_upper, upper_from}
use Rattle.constant_names.specs.Words.{is_word_part}

-- the words of a text are what its first character adds, and then those of the rest
pub upper_more : (before : ℕ) (more : Bool) (bs rest : List ℕ) (c : ℕ) → IsUtf8 bs → bs ≡ encode_utf8 c ++ rest → upper_from before more (chars bs) ≡ next_upper before more c ++ upper_from c (more || is_word_part c) (chars rest)
upper_more before more bs rest c text e = ap (upper_from before more) (chars_past_char bs rest c text e)

-- an empty text has no words
pub upper_nil : (before : ℕ) (more : Bool) (bs : List ℕ) → length bs ≡ 0 → upper_from before more (chars bs) ≡ []
upper_nil before more bs none = ap (λ (it : List ℕ). upper_from before more (chars it)) (nil_from_length bs none) ∙ ap (upper_from before more) chars-nil

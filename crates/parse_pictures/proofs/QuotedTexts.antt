-- Facts on texts between quotes.
use Rattle.std.proofs.Common.{◌≡◌, ℕ, List, [], ◌++◌, length, ap, ◌∙◌}
use Rattle.std.proofs.lemmas.List.{nil_from_length}
use Rattle.std.proofs.lemmas.Str.{chars_past_char, chars-nil}
use Rattle.std.specs.Char.{encode_utf8}
use Rattle.std.specs.List.{flat_map}
use Rattle.std.specs.Str.{IsUtf8}
use Rattle.parse_pictures.specs.TreeGraphs.{quoted_char, quoted_text}

-- a text between quotes is its first character there, and then the rest
pub quoted_more : (bs rest : List ℕ) (c : ℕ) → IsUtf8 bs → bs ≡ encode_utf8 c ++ rest → quoted_text bs ≡ quoted_char c ++ quoted_text rest
quoted_more bs rest c text e = ap (flat_map quoted_char) (chars_past_char bs rest c text e)

-- an empty text between quotes is empty
pub quoted_nil : (bs : List ℕ) → length bs ≡ 0 → quoted_text bs ≡ []
quoted_nil bs none = ap quoted_text (nil_from_length bs none) ∙ ap (flat_map quoted_char) chars-nil

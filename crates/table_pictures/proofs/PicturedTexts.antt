-- Facts on texts whose control characters are shown by their pictures.
use Rattle.std.proofs.Common.{◌≡◌, ℕ, List, [], ◌++◌, length, ap, ◌∙◌}
use Rattle.std.proofs.lemmas.List.{nil_from_length}
use Rattle.std.proofs.lemmas.Str.{chars_past_char, chars-nil}
use Rattle.std.specs.Char.{encode_utf8}
use Rattle.std.specs.List.{flat_map}
use Rattle.std.specs.Str.{IsUtf8}
use Rattle.table_pictures.specs.Escape.{line_char, pictured, pictured_lines, pictured_text}

-- a text is its first character as it is shown, and then the rest
pub pictured_more : (bs rest : List ℕ) (c : ℕ) → IsUtf8 bs → bs ≡ encode_utf8 c ++ rest → pictured_text bs ≡ encode_utf8 (pictured c) ++ pictured_text rest
pictured_more bs rest c text e = ap (flat_map (λ (x : ℕ). encode_utf8 (pictured x))) (chars_past_char bs rest c text e)

-- an empty text is empty
pub pictured_nil : (bs : List ℕ) → length bs ≡ 0 → pictured_text bs ≡ []
pictured_nil bs none = ap pictured_text (nil_from_length bs none) ∙ ap (flat_map (λ (x : ℕ). encode_utf8 (pictured x))) chars-nil

-- a text of several lines is its first character as it is shown there, and then the rest
pub lines_more : (bs rest : List ℕ) (c : ℕ) → IsUtf8 bs → bs ≡ encode_utf8 c ++ rest → pictured_lines bs ≡ line_char c ++ pictured_lines rest
lines_more bs rest c text e = ap (flat_map line_char) (chars_past_char bs rest c text e)

-- an empty text has no lines
pub lines_nil : (bs : List ℕ) → length bs ≡ 0 → pictured_lines bs ≡ []
lines_nil bs none = ap pictured_lines (nil_from_length bs none) ∙ ap (flat_map line_char) chars-nil

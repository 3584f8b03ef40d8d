-- Facts on texts as XML.
use Rattle.std.proofs.Common.{◌≡◌, ℕ, List, [], ◌++◌, length, ap, ◌∙◌}
use Rattle.std.proofs.lemmas.List.{nil_from_length}
use Rattle.std.proofs.lemmas.Str.{chars_past_char, chars-nil}
use Rattle.std.specs.Char.{encode_utf8}
use Rattle.std.specs.List.{flat_map}
use Rattle.std.specs.Str.{IsUtf8}
use Rattle.table_pictures.specs.Escape.{xml_char, xml_text}

-- a text as XML is its first character as XML, and then the rest as XML
pub xml_more : (bs rest : List ℕ) (c : ℕ) → IsUtf8 bs → bs ≡ encode_utf8 c ++ rest → xml_text bs ≡ xml_char c ++ xml_text rest
xml_more bs rest c text e = ap (flat_map xml_char) (chars_past_char bs rest c text e)

-- an empty text as XML is empty
pub xml_nil : (bs : List ℕ) → length bs ≡ 0 → xml_text bs ≡ []
xml_nil bs none = ap xml_text (nil_from_length bs none) ∙ ap (flat_map xml_char) chars-nil

-- An escaped text has no markup.
use Rattle.std.proofs.Common.{◌≡◌, ◌<◌, ◌≤◌, ◌+◌, ◌==◌, ◌&&◌, ◌||◌, ℕ, Bool, true, false, List, [], cond, nat_le, nat_lt, refl, sym, ap, ◌∙◌, arith, count_by, inl, inr}
use Rattle.std.proofs.lemmas.Bool.{cases_lt}
use Rattle.std.proofs.lemmas.Bool.Decides.{nat_tests}
use Rattle.std.proofs.lemmas.List.{append-nil}
use Rattle.std.proofs.lemmas.Str.{encode_ascii, inside_one}
use Rattle.std.specs.Char.{encode_utf8}
use Rattle.std.specs.Str.{chars}
use Rattle.table_pictures.specs.Escape.{inert, inert_byte, is_opening, is_markup, xml_char, xml_text}
use Rattle.table_pictures.proofs.Counts.{chosen, none_counted, none_in_pieces}

inert_byte_none : (b : ℕ) → count_by is_opening (inert_byte b) ≡ 0
inert_byte_none b = chosen is_opening (b == 60) _ _ refl (λ e. ap (λ t. 0 + cond t 1 0) e)

-- a JSON text with each `<` escaped has no `<`
pub inert_has_none : (json : List ℕ) → count_by is_opening (inert json) ≡ 0
inert_has_none json = none_in_pieces is_opening inert_byte json inert_byte_none

high_is_none : (b : ℕ) → 128 ≤ b → is_markup b ≡ false
high_is_none b high = grind (arith, nat_tests)

high_byte : (c x : ℕ) → 128 ≤ c → (x < 128 → c ≡ x) → 128 ≤ x
high_byte c x high same = elim (cases_lt x 128) [ inl low ↦ omega (arith, same low) | inr above ↦ above ]

high_none : (c : ℕ) → 128 ≤ c → count_by is_markup (encode_utf8 c) ≡ 0
high_none c high =
    none_counted is_markup (encode_utf8 c) (λ k inside. high_is_none _ (high_byte c _ high (inside_one c [] (encode_utf8 c) k (sym (append-nil _)) inside)))

low_is_none : (c : ℕ) → (c == 60) ≡ false → (c == 62) ≡ false → (c == 34) ≡ false → nat_lt c 32 ≡ false → (c == 127) ≡ false → is_markup c ≡ false
low_is_none c a b d e f = grind (arith, nat_tests)

plain_none : (c : ℕ) → is_markup c ≡ false → count_by is_markup (encode_utf8 c) ≡ 0
plain_none c none = elim (cases_lt c 128) [
  | inl low ↦ ap (count_by is_markup) (encode_ascii c low) ∙ ap (λ t. 0 + cond t 1 0) none
  | inr high ↦ high_none c high
]

pictured_none : (c : ℕ) (s t u : Bool) → nat_lt c 32 ≡ s → (c == 127) ≡ t → (c == 60) ≡ false → (c == 62) ≡ false → (c == 34) ≡ false →
    count_by is_markup (encode_utf8 (cond s (0x2400 + c) (cond t 0x2421 (cond u 0xFFFD c)))) ≡ 0
pictured_none c true t u e f a b d = high_none (0x2400 + c) (omega arith)
pictured_none c false true u e f a b d = high_none 0x2421 (omega arith)
pictured_none c false false true e f a b d = high_none 0xFFFD (omega arith)
pictured_none c false false false e f a b d = plain_none c (low_is_none c a b d e f)

xml_char_none : (c : ℕ) → count_by is_markup (xml_char c) ≡ 0
xml_char_none c =
    chosen is_markup (c == 38) _ _ refl (λ _. chosen is_markup (c == 60) _ _ refl (λ a. chosen is_markup (c == 62) _ _ refl (λ b. chosen is_markup (c == 34) _ _ refl (λ d.
    chosen is_markup (c == 92) _ _ refl (λ _.
    chosen is_markup (c == 0xFFFE || c == 0xFFFF) _ _ (high_none 0xFFFD (omega arith)) (λ _. pictured_none c (nat_lt c 32) (c == 127) (nat_le 128 c && nat_lt c 160) refl refl a b d))))))

-- a text as XML has no markup
pub xml_has_none : (text : List ℕ) → count_by is_markup (xml_text text) ≡ 0
xml_has_none text = none_in_pieces is_markup xml_char (chars text) xml_char_none

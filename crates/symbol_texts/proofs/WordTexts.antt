-- The words of names have no underscores but single ones between them.
use Rattle.std.proofs.Common.{◌≡◌, ◌≢◌, ℕ, ◌+◌, ◌<◌, ◌/◌, ◌%◌, suc, zero, nat_lt, Bool, true, false, not, cond, ◌&&◌, ◌||◌, ◌==◌, List, [], ◌∷◌, ◌++◌, codes, refl, ap, ◌∙◌, arith, ne_eqb}
use Rattle.std.proofs.lemmas.Bool.{ltb-true, ltb-false}
use Rattle.std.proofs.lemmas.Bool.Decides.{nat_tests}
use Rattle.std.proofs.lemmas.Str.{encode_ascii}
use Rattle.std.specs.Char.{encode_utf8, to_ascii_lowercase, to_ascii_uppercase}
use Rattle.std.specs.Fmt.{digits, digits_onto, digit_glyph}
use Rattle.std.specs.List.{list_any}
use Rattle.std.specs.Str.{chars}
use Rattle.constant_names.specs.Camel.{camel_from, camel_letters, camel_text, next_camel}
use Rattle.constant_names.specs.CamelSigns as Camels
use Rattle.constant_names.specs.Signs as Uppers
use Rattle.constant_names.specs.Signs.{or_else}
use Rattle.constant_names.specs.Upper.{next_upper, separator, upper_from, upper_letters, upper_text}
use Rattle.constant_names.specs.Words.{begins, has_word, is_letter, is_word_part}

-- whether a text has no underscore
abbrev pub no_bar : List ℕ → Bool
no_bar [] = true
no_bar (b ∷ bs) = not (b == 95) && no_bar bs

-- whether a text has a byte, and no underscore
abbrev pub solid : List ℕ → Bool
solid [] = false
solid (b ∷ bs) = not (b == 95) && no_bar bs

-- whether single underscores are between other bytes, in a text after an underscore or after another
-- byte
abbrev pub clean : Bool → List ℕ → Bool
clean barred [] = not barred
clean barred (b ∷ bs) = cond (b == 95) (not barred && clean true bs) (clean false bs)

both : (a b : Bool) → a ≡ true → b ≡ true → (a && b) ≡ true
both a b ha hb = cc (ap (λ x. x && b) ha)

left : (a b : Bool) → (a && b) ≡ true → a ≡ true
left true b h = refl
left false b h = h

right : (a b : Bool) → (a && b) ≡ true → b ≡ true
right true b h = h
right false b h = absurd (cc h)

-- ---- texts that are put together

pub no_bar_append : (u v : List ℕ) → no_bar u ≡ true → no_bar v ≡ true → no_bar (u ++ v) ≡ true
no_bar_append [] v hu hv = hv
no_bar_append (b ∷ u) v hu hv = both _ _ (left _ _ hu) (no_bar_append u v (right _ _ hu) hv)

-- one of two texts
no_bar_if : (b : Bool) (u v : List ℕ) → no_bar u ≡ true → no_bar v ≡ true → no_bar (cond b u v) ≡ true
no_bar_if true u v hu hv = hu
no_bar_if false u v hu hv = hv

no_bar_or_else : (u v : List ℕ) → no_bar u ≡ true → no_bar v ≡ true → no_bar (or_else u v) ≡ true
no_bar_or_else [] v hu hv = hv
no_bar_or_else (b ∷ u) v hu hv = hu

solid_or_else : (u v : List ℕ) → no_bar u ≡ true → solid v ≡ true → solid (or_else u v) ≡ true
solid_or_else [] v hu hv = hv
solid_or_else (b ∷ u) v hu hv = hu

-- a text that has a byte and no underscore has no underscore
solid_no_bar : (u : List ℕ) → solid u ≡ true → no_bar u ≡ true
solid_no_bar [] h = absurd (cc h)
solid_no_bar (b ∷ u) h = h

-- ---- letters and signs

-- a letter other than an underscore
solid_byte : (b : ℕ) → b ≢ 95 → b < 128 → solid (encode_utf8 b) ≡ true
solid_byte b other few = ap solid (encode_ascii b few) ∙ both _ _ (ap not (ne_eqb b 95 other)) refl

digit : (upper : Bool) (d : ℕ) (b : Bool) → nat_lt d 10 ≡ b → d < 16 → cond b (48 + d) (cond upper (55 + d) (87 + d)) ≢ 95
digit upper d true e few = λ is. let low = ltb-true d 10 e in absurd (omega (arith, low, is))
digit true d false e few = λ is. let high = ltb-false d 10 e in absurd (omega (arith, few, is))
digit false d false e few = λ is. let high = ltb-false d 10 e in absurd (omega (arith, high, is))

digits_more : (k n : ℕ) (upper : Bool) (acc : List ℕ) → no_bar acc ≡ true → no_bar (digits_onto k 16 upper n acc) ≡ true
digits_more zero n upper acc h = h
digits_more (suc k) n upper acc h =
    let few : n % 16 < 16 = omega arith in
    let one : no_bar (digit_glyph upper (n % 16) ∷ acc) ≡ true = both _ _ (ap not (ne_eqb _ 95 (digit upper (n % 16) _ refl few))) h in
    no_bar_if (n / 16 == 0) _ _ one (digits_more k (n / 16) upper _ one)

no_bar_digits : (upper : Bool) (n : ℕ) → no_bar (digits 16 upper n) ≡ true
unfolding digits
no_bar_digits upper n = digits_more 64 n upper [] refl

-- a text has no underscore
record Plain (u : List ℕ) : Type 0 where
  holds : no_bar u ≡ true

lit : (u : List ℕ) → no_bar u ≡ true → Plain u
lit u h = record { holds = h }

plain_if : (b : Bool) (u v : List ℕ) → Plain u → Plain v → Plain (cond b u v)
plain_if true u v hu hv = hu
plain_if false u v hu hv = hv

plain_upper_low_sign : (c : ℕ) → Plain (Uppers.low_sign c)
plain_upper_low_sign c = plain_if (c == 33) (codes "BANG") _ (lit (codes "BANG") refl) (plain_if (c == 35) (codes "HASH") _ (lit (codes "HASH") refl) (plain_if (c == 36) (codes "DOLLAR") _ (lit (codes "DOLLAR") refl) (plain_if (c == 37) (codes "PERCENT") _ (lit (codes "PERCENT") refl) (plain_if (c == 38) (codes "AMP") _ (lit (codes "AMP") refl) (plain_if (c == 39) (codes "QUOTE") _ (lit (codes "QUOTE") refl) (plain_if (c == 40) (codes "LPAREN") _ (lit (codes "LPAREN") refl) (plain_if (c == 41) (codes "RPAREN") _ (lit (codes "RPAREN") refl) (plain_if (c == 42) (codes "STAR") _ (lit (codes "STAR") refl) (plain_if (c == 43) (codes "PLUS") _ (lit (codes "PLUS") refl) (plain_if (c == 44) (codes "COMMA") _ (lit (codes "COMMA") refl) (plain_if (c == 45) (codes "MINUS") _ (lit (codes "MINUS") refl) (plain_if (c == 46) (codes "DOT") _ (lit (codes "DOT") refl) (plain_if (c == 47) (codes "SLASH") _ (lit (codes "SLASH") refl) (lit [] refl))))))))))))))

plain_upper_middle_sign : (c : ℕ) → Plain (Uppers.middle_sign c)
plain_upper_middle_sign c = plain_if (c == 58) (codes "COLON") _ (lit (codes "COLON") refl) (plain_if (c == 59) (codes "SEMICOLON") _ (lit (codes "SEMICOLON") refl) (plain_if (c == 60) (codes "LT") _ (lit (codes "LT") refl) (plain_if (c == 61) (codes "EQ") _ (lit (codes "EQ") refl) (plain_if (c == 62) (codes "GT") _ (lit (codes "GT") refl) (plain_if (c == 63) (codes "QUESTION") _ (lit (codes "QUESTION") refl) (plain_if (c == 64) (codes "AT") _ (lit (codes "AT") refl) (lit [] refl)))))))

plain_upper_high_sign : (c : ℕ) → Plain (Uppers.high_sign c)
plain_upper_high_sign c = plain_if (c == 91) (codes "LBRACKET") _ (lit (codes "LBRACKET") refl) (plain_if (c == 92) (codes "BACKSLASH") _ (lit (codes "BACKSLASH") refl) (plain_if (c == 93) (codes "RBRACKET") _ (lit (codes "RBRACKET") refl) (plain_if (c == 94) (codes "CARET") _ (lit (codes "CARET") refl) (plain_if (c == 96) (codes "BACKQUOTE") _ (lit (codes "BACKQUOTE") refl) (plain_if (c == 123) (codes "LBRACE") _ (lit (codes "LBRACE") refl) (plain_if (c == 124) (codes "PIPE") _ (lit (codes "PIPE") refl) (plain_if (c == 125) (codes "RBRACE") _ (lit (codes "RBRACE") refl) (plain_if (c == 126) (codes "TILDE") _ (lit (codes "TILDE") refl) (lit [] refl)))))))))

no_bar_upper_sign_word : (c : ℕ) → no_bar (Uppers.sign_word c) ≡ true
no_bar_upper_sign_word c = no_bar_or_else (Uppers.low_sign c) (or_else (Uppers.middle_sign c) (Uppers.high_sign c)) (plain_upper_low_sign c).holds (no_bar_or_else (Uppers.middle_sign c) (Uppers.high_sign c) (plain_upper_middle_sign c).holds (plain_upper_high_sign c).holds)

solid_upper_sign : (c : ℕ) → solid (Uppers.upper_sign c) ≡ true
solid_upper_sign c = solid_or_else (Uppers.sign_word c) (codes "U" ++ digits 16 true c) (no_bar_upper_sign_word c) (no_bar_digits true c)

plain_camel_low_sign : (c : ℕ) → Plain (Camels.low_sign c)
plain_camel_low_sign c = plain_if (c == 33) (codes "Bang") _ (lit (codes "Bang") refl) (plain_if (c == 35) (codes "Hash") _ (lit (codes "Hash") refl) (plain_if (c == 36) (codes "Dollar") _ (lit (codes "Dollar") refl) (plain_if (c == 37) (codes "Percent") _ (lit (codes "Percent") refl) (plain_if (c == 38) (codes "Amp") _ (lit (codes "Amp") refl) (plain_if (c == 39) (codes "Quote") _ (lit (codes "Quote") refl) (plain_if (c == 40) (codes "Lparen") _ (lit (codes "Lparen") refl) (plain_if (c == 41) (codes "Rparen") _ (lit (codes "Rparen") refl) (plain_if (c == 42) (codes "Star") _ (lit (codes "Star") refl) (plain_if (c == 43) (codes "Plus") _ (lit (codes "Plus") refl) (plain_if (c == 44) (codes "Comma") _ (lit (codes "Comma") refl) (plain_if (c == 45) (codes "Minus") _ (lit (codes "Minus") refl) (plain_if (c == 46) (codes "Dot") _ (lit (codes "Dot") refl) (plain_if (c == 47) (codes "Slash") _ (lit (codes "Slash") refl) (lit [] refl))))))))))))))

plain_camel_middle_sign : (c : ℕ) → Plain (Camels.middle_sign c)
plain_camel_middle_sign c = plain_if (c == 58) (codes "Colon") _ (lit (codes "Colon") refl) (plain_if (c == 59) (codes "Semicolon") _ (lit (codes "Semicolon") refl) (plain_if (c == 60) (codes "Lt") _ (lit (codes "Lt") refl) (plain_if (c == 61) (codes "Eq") _ (lit (codes "Eq") refl) (plain_if (c == 62) (codes "Gt") _ (lit (codes "Gt") refl) (plain_if (c == 63) (codes "Question") _ (lit (codes "Question") refl) (plain_if (c == 64) (codes "At") _ (lit (codes "At") refl) (lit [] refl)))))))

plain_camel_high_sign : (c : ℕ) → Plain (Camels.high_sign c)
plain_camel_high_sign c = plain_if (c == 91) (codes "Lbracket") _ (lit (codes "Lbracket") refl) (plain_if (c == 92) (codes "Backslash") _ (lit (codes "Backslash") refl) (plain_if (c == 93) (codes "Rbracket") _ (lit (codes "Rbracket") refl) (plain_if (c == 94) (codes "Caret") _ (lit (codes "Caret") refl) (plain_if (c == 96) (codes "Backquote") _ (lit (codes "Backquote") refl) (plain_if (c == 123) (codes "Lbrace") _ (lit (codes "Lbrace") refl) (plain_if (c == 124) (codes "Pipe") _ (lit (codes "Pipe") refl) (plain_if (c == 125) (codes "Rbrace") _ (lit (codes "Rbrace") refl) (plain_if (c == 126) (codes "Tilde") _ (lit (codes "Tilde") refl) (lit [] refl)))))))))

no_bar_camel_sign_word : (c : ℕ) → no_bar (Camels.sign_word c) ≡ true
no_bar_camel_sign_word c = no_bar_or_else (Camels.low_sign c) (or_else (Camels.middle_sign c) (Camels.high_sign c)) (plain_camel_low_sign c).holds (no_bar_or_else (Camels.middle_sign c) (Camels.high_sign c) (plain_camel_middle_sign c).holds (plain_camel_high_sign c).holds)

solid_camel_sign : (c : ℕ) → solid (Camels.camel_sign c) ≡ true
solid_camel_sign c = solid_or_else (Camels.sign_word c) (codes "U" ++ digits 16 false c) (no_bar_camel_sign_word c) (no_bar_digits false c)

-- a letter of ASCII in either case is none, and has one byte
letter_cases : (c : ℕ) → is_letter c ≡ true → (to_ascii_uppercase c ≢ 95) × (to_ascii_uppercase c < 128) × (to_ascii_lowercase c ≢ 95) × (to_ascii_lowercase c < 128)
letter_cases c h = grind (arith, nat_tests)

solid_upper_letters : (c : ℕ) (b : Bool) → is_letter c ≡ b → solid (cond b (encode_utf8 (to_ascii_uppercase c)) (Uppers.upper_sign c)) ≡ true
solid_upper_letters c true h = let it = letter_cases c h in solid_byte _ it.0 it.1
solid_upper_letters c false h = solid_upper_sign c

solid_camel_letters : (is_first : Bool) (c : ℕ) (b : Bool) → is_letter c ≡ b → solid (cond b (encode_utf8 (cond is_first (to_ascii_uppercase c) (to_ascii_lowercase c))) (Camels.camel_sign c)) ≡ true
solid_camel_letters true c true h = let it = letter_cases c h in solid_byte _ it.0 it.1
solid_camel_letters false c true h = let it = letter_cases c h in solid_byte _ it.2 it.3
solid_camel_letters is_first c false h = solid_camel_sign c

-- ---- words that begin with capitals

next_camel_no_bar : (before c : ℕ) (b : Bool) → no_bar (cond b [] (camel_letters (begins before c) c)) ≡ true
next_camel_no_bar before c true = refl
next_camel_no_bar before c false = solid_no_bar (camel_letters (begins before c) c) (solid_camel_letters (begins before c) c (is_letter c) refl)

camel_from_no_bar : (before : ℕ) (cs : List ℕ) → no_bar (camel_from before cs) ≡ true
camel_from_no_bar before [] = refl
camel_from_no_bar before (c ∷ cs) = no_bar_append (next_camel before c) (camel_from c cs) (next_camel_no_bar before c (c == 95)) (camel_from_no_bar c cs)

pub camel_no_bar : (text : List ℕ) → no_bar (camel_text text) ≡ true
camel_no_bar text = no_bar_if (has_word text) (camel_from 95 (chars text)) (codes "Underscore") (camel_from_no_bar 95 (chars text)) refl

-- ---- words in capitals

-- a clean text with a byte before it, if the rest may be followed
clean_step : (s : Bool) (u v : List ℕ) (is : Bool) → (clean true u ≡ true → clean true (u ++ v) ≡ true) → (clean false u ≡ true → clean false (u ++ v) ≡ true) → cond is (not s && clean true u) (clean false u) ≡ true → cond is (not s && clean true (u ++ v)) (clean false (u ++ v)) ≡ true
clean_step s u v true after_bar after h = both _ _ (left _ _ h) (after_bar (right _ _ h))
clean_step s u v false after_bar after h = after h

-- a clean text, and one that may follow it
pub clean_append : (s : Bool) (u v : List ℕ) → clean s u ≡ true → clean false v ≡ true → clean s (u ++ v) ≡ true
clean_append true [] v hu hv = absurd (cc hu)
clean_append false [] v hu hv = hv
clean_append s (b ∷ u) v hu hv = clean_step s u v (b == 95) (λ h. clean_append true u v h hv) (λ h. clean_append false u v h hv) hu

-- a byte other than an underscore before a clean text
clean_other : (s : Bool) (u : List ℕ) (is : Bool) → not is ≡ true → clean false u ≡ true → cond is (not s && clean true u) (clean false u) ≡ true
clean_other s u true h rest = absurd (cc h)
clean_other s u false h rest = rest

-- a text without underscores is clean
no_bar_clean : (u : List ℕ) → no_bar u ≡ true → clean false u ≡ true
no_bar_clean [] h = refl
no_bar_clean (b ∷ u) h = clean_other false u (b == 95) (left _ _ h) (no_bar_clean u (right _ _ h))

solid_clean : (s : Bool) (u : List ℕ) → solid u ≡ true → clean s u ≡ true
solid_clean s [] h = absurd (cc h)
solid_clean s (b ∷ u) h = clean_other s u (b == 95) (left _ _ h) (no_bar_clean u (right _ _ h))

-- an underscore, if there is one, and a text without underscores
bar_clean : (separated : Bool) (u : List ℕ) → solid u ≡ true → clean false (separator separated ++ u) ≡ true
bar_clean true u h = solid_clean true u h
bar_clean false u h = solid_clean false u h

-- what a character adds after other words
next_clean : (before c : ℕ) (is : Bool) → clean false (cond is [] (separator (true && begins before c) ++ upper_letters c)) ≡ true
next_clean before c true = refl
next_clean before c false = bar_clean (begins before c) (upper_letters c) (solid_upper_letters c (is_letter c) refl)

-- words after other ones
pub upper_from_clean : (before : ℕ) (cs : List ℕ) → clean false (upper_from before true cs) ≡ true
upper_from_clean before [] = refl
upper_from_clean before (c ∷ cs) = clean_append false (next_upper before true c) (upper_from c true cs) (next_clean before c (c == 95)) (upper_from_clean c cs)

-- the first words of a name
first_clean : (before c : ℕ) (cs : List ℕ) (is : Bool) → (list_any is_word_part cs ≡ true → clean true (upper_from c false cs) ≡ true) → (not is || list_any is_word_part cs) ≡ true → clean true (cond is [] (separator (false && begins before c) ++ upper_letters c) ++ upper_from c (false || not is) cs) ≡ true
first_clean before c cs true rest some = rest some
first_clean before c cs false rest some = clean_append true (upper_letters c) (upper_from c true cs) (solid_clean true (upper_letters c) (solid_upper_letters c (is_letter c) refl)) (upper_from_clean c cs)

upper_first_clean : (before : ℕ) (cs : List ℕ) → list_any is_word_part cs ≡ true → clean true (upper_from before false cs) ≡ true
upper_first_clean before [] some = absurd (cc some)
upper_first_clean before (c ∷ cs) some = first_clean before c cs (c == 95) (upper_first_clean c cs) some

-- a name's first words, and its later ones
if_clean : (s is : Bool) (u v : List ℕ) → (is ≡ true → clean s u ≡ true) → clean s v ≡ true → clean s (cond is u v) ≡ true
if_clean s true u v hu hv = hu refl
if_clean s false u v hu hv = hv

pub upper_clean : (text : List ℕ) → clean true (upper_text false text) ≡ true
upper_clean text = if_clean true (has_word text) (upper_from 95 false (chars text)) (codes "UNDERSCORE") (λ some. upper_first_clean 95 (chars text) some) refl

pub more_clean : (text : List ℕ) → clean false (upper_text true text) ≡ true
more_clean text = if_clean false (has_word text) (upper_from 95 true (chars text)) (codes "_UNDERSCORE") (λ _. upper_from_clean 95 (chars text)) refl

-- ---- marks

two_after : (s is : Bool) (t : List ℕ) → (clean true t ≡ true → ⊥) → (clean false t ≡ true → ⊥) → cond is (not s && clean true t) (clean false t) ≡ true → ⊥
two_after s true t after_bar after h = after_bar (right _ _ h)
two_after s false t after_bar after h = after h

-- two underscores are not in a clean text
pub no_two_bars : (s : Bool) (before after : List ℕ) → clean s (before ++ 95 ∷ 95 ∷ after) ≡ true → ⊥
no_two_bars true [] after h = cc h
no_two_bars false [] after h = cc h
no_two_bars s (b ∷ before) after h = two_after s (b == 95) (before ++ 95 ∷ 95 ∷ after) (no_two_bars true before after) (no_two_bars false before after) h

-- one underscore is not in a text that has none
pub no_one_bar : (before after : List ℕ) → no_bar (before ++ 95 ∷ after) ≡ true → ⊥
no_one_bar [] after h = cc h
no_one_bar (b ∷ before) after h = no_one_bar before after (right _ _ h)

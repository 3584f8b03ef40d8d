-- The words of a text: where they begin, and of which characters they are.
use Rattle.std.specs.Prelude.{ℕ, Bool, true, nat_le, ◌&&◌, ◌||◌, ◌==◌, not, if◌then◌else◌, List}
use Rattle.std.specs.List.{list_any}
use Rattle.std.specs.Str.{chars}

-- whether a character is a capital letter of ASCII
abbrev pub is_capital : ℕ → Bool
is_capital c = nat_le 65 c && nat_le c 90

-- whether a character is a small letter or a digit of ASCII
abbrev pub is_small : ℕ → Bool
is_small c = (nat_le 97 c && nat_le c 122) || (nat_le 48 c && nat_le c 57)

-- whether a character is a letter or a digit of ASCII
abbrev pub is_letter : ℕ → Bool
is_letter c = is_capital c || is_small c

-- whether a character other than an underscore begins a word after another character: a capital after
-- anything but a capital, a small letter or a digit after no letter, and a sign always
abbrev pub begins : ℕ → ℕ → Bool
begins before c = if is_capital c then not (is_capital before) else if is_small c then not (is_letter before) else true

-- whether a character belongs to a word: each one but an underscore
abbrev pub is_word_part : ℕ → Bool
is_word_part c = not (c == 95)

-- whether a text has a word
abbrev pub has_word : List ℕ → Bool
has_word text = list_any is_word_part (chars text)

-- The words of characters that are no letters.
use Rattle.std.specs.Prelude.{ℕ, true, ◌==◌, if◌then◌else◌, List, [], ◌∷◌, ◌++◌, codes}
use Rattle.std.specs.Fmt.{digits}

-- the word of a sign before the digits, or nothing
abbrev pub low_sign : ℕ → List ℕ
low_sign c = if c == 33 then codes "BANG" else if c == 35 then codes "HASH" else if c == 36 then codes "DOLLAR" else if c == 37 then codes "PERCENT" else if c == 38 then codes "AMP" else if c == 39 then codes "QUOTE" else if c == 40 then codes "LPAREN" else if c == 41 then codes "RPAREN"
    else if c == 42 then codes "STAR" else if c == 43 then codes "PLUS" else if c == 44 then codes "COMMA" else if c == 45 then codes "MINUS" else if c == 46 then codes "DOT" else if c == 47 then codes "SLASH" else []

-- the word of a sign between the digits and the capitals, or nothing
abbrev pub middle_sign : ℕ → List ℕ
middle_sign c = if c == 58 then codes "COLON" else if c == 59 then codes "SEMICOLON" else if c == 60 then codes "LT" else if c == 61 then codes "EQ" else if c == 62 then codes "GT" else if c == 63 then codes "QUESTION" else if c == 64 then codes "AT" else []

-- the word of a sign after the capitals, or nothing
abbrev pub high_sign : ℕ → List ℕ
high_sign c = if c == 91 then codes "LBRACKET" else if c == 92 then codes "BACKSLASH" else if c == 93 then codes "RBRACKET" else if c == 94 then codes "CARET" else if c == 96 then codes "BACKQUOTE" else if c == 123 then codes "LBRACE" else if c == 124 then codes "PIPE" else if c == 125 then codes "RBRACE" else if c == 126 then codes "TILDE" else []

-- a text, or another one if it is empty
abbrev pub or_else : List ℕ → List ℕ → List ℕ
or_else [] other = other
or_else (x ∷ xs) other = x ∷ xs

-- the word of a sign of ASCII, or nothing
abbrev pub sign_word : ℕ → List ℕ
sign_word c = or_else (low_sign c) (or_else (middle_sign c) (high_sign c))

-- the word of any character that is no letter: that of a sign, or `U` and its number in hexadecimal
abbrev pub upper_sign : ℕ → List ℕ
upper_sign c = or_else (sign_word c) (codes "U" ++ digits 16 true c)

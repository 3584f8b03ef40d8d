-- The words of characters that are no letters, each with a capital.
use Rattle.std.specs.Prelude.{ℕ, false, ◌==◌, if◌then◌else◌, List, [], ◌++◌, codes}
use Rattle.std.specs.Fmt.{digits}
use Rattle.constant_names.specs.Signs.{or_else}

-- the word of a sign before the digits, or nothing
abbrev pub low_sign : ℕ → List ℕ
low_sign c = if c == 33 then codes "Bang" else if c == 35 then codes "Hash" else if c == 36 then codes "Dollar" else if c == 37 then codes "Percent" else if c == 38 then codes "Amp" else if c == 39 then codes "Quote" else if c == 40 then codes "Lparen" else if c == 41 then codes "Rparen"
    else if c == 42 then codes "Star" else if c == 43 then codes "Plus" else if c == 44 then codes "Comma" else if c == 45 then codes "Minus" else if c == 46 then codes "Dot" else if c == 47 then codes "Slash" else []

-- the word of a sign between the digits and the capitals, or nothing
abbrev pub middle_sign : ℕ → List ℕ
middle_sign c = if c == 58 then codes "Colon" else if c == 59 then codes "Semicolon" else if c == 60 then codes "Lt" else if c == 61 then codes "Eq" else if c == 62 then codes "Gt" else if c == 63 then codes "Question" else if c == 64 then codes "At" else []

-- the word of a sign after the capitals, or nothing
abbrev pub high_sign : ℕ → List ℕ
high_sign c = if c == 91 then codes "Lbracket" else if c == 92 then codes "Backslash" else if c == 93 then codes "Rbracket" else if c == 94 then codes "Caret" else if c == 96 then codes "Backquote" else if c == 123 then codes "Lbrace" else if c == 124 then codes "Pipe" else if c == 125 then codes "Rbrace" else if c == 126 then codes "Tilde" else []

-- the word of a sign of ASCII, or nothing
abbrev pub sign_word : ℕ → List ℕ
sign_word c = or_else (low_sign c) (or_else (middle_sign c) (high_sign c))

-- the word of any character that is no letter: that of a sign, or `U` and its number in hexadecimal
abbrev pub camel_sign : ℕ → List ℕ
camel_sign c = or_else (sign_word c) (codes "U" ++ digits 16 false c)

-- The hint for a faulty word.
use Rattle.std.specs.Prelude.{◌==◌, ℕ, ◌-◌, Bool, not, nat_le, ◌&&◌, ◌||◌, List, [], ◌∷◌, drop, length, nat_lt, slice_get, take, Option, None, Some, codes, unwrap_or, if◌then◌else◌}
use Rattle.std.specs.List.{list_any, starts_with}
use Rattle.std.specs.Str.{bytes_eq}
use Rattle.grammar_diagnostics.specs.declared.reason.Reason.{Reason}
use Rattle.grammar_diagnostics.specs.declared.reason.Reason.TheVariants as reason
use Rattle.grammar_diagnostics.specs.declared.hint.Hint.{Hint}
use Rattle.grammar_diagnostics.specs.declared.hint.Hint.TheVariants.{EmptyRight, Alternative, Equals, Blanks, End, Comma, Comment, DoubleQuotes, CurlyQuotes, Literal, Directive, ByteOrderMark, Repetition, Group, Hyphen, Name, Symbol, Production, Mark}

-- the first of two hints that is there
abbrev pub or_else : Option Hint → Option Hint → Option Hint
or_else None other = other
or_else (Some hint) other = Some hint

-- the first byte of a word, and 0 if there is none
abbrev pub first_byte : List ℕ → ℕ
first_byte word = unwrap_or (slice_get word 0) 0

-- the last byte of a word, and 0 if there is none
abbrev pub last_byte : List ℕ → ℕ
last_byte word = unwrap_or (slice_get word (length word - 1)) 0

-- whether a byte is in a word
abbrev pub has_byte : ℕ → List ℕ → Bool
has_byte byte word = list_any (λ b. b == byte) word

-- the hint for a word that begins with a byte: `#`, `'`, `%`, or an opening bracket
abbrev pub by_first_byte : ℕ → Option Hint
by_first_byte b =
    if b == 35 then Some Comment else (
    if b == 39 then Some DoubleQuotes else (
    if b == 37 then Some Directive else (
    if (b == 40) || ((b == 91) || (b == 123)) then Some Group else None)))

-- the hint for a word that ends with a byte: `*`, `+` or `?`, `;`, `,`, `:`, or a closing bracket
abbrev pub by_last_byte : ℕ → Option Hint
by_last_byte b =
    if (b == 42) || ((b == 43) || (b == 63)) then Some Repetition else (
    if b == 59 then Some End else (
    if b == 44 then Some Comma else (
    if b == 58 then Some Equals else (
    if (b == 41) || ((b == 93) || (b == 125)) then Some Group else None))))

-- the hint for a word in which `|` is, a double quote at its beginning, `>` without `<` at its
-- beginning, `=` or `-`
abbrev pub by_inner_byte : List ℕ → Option Hint
by_inner_byte word =
    if has_byte 124 word then Some Alternative else (
    if first_byte word == 34 then Some Literal else (
    if has_byte 62 word && not (first_byte word == 60) then Some Equals else (
    if has_byte 61 word then Some Blanks else (
    if has_byte 45 word then Some Hyphen else None))))

-- the hint for a word by its last byte, and else by the others
abbrev pub by_later_byte : List ℕ → Option Hint
by_later_byte word = or_else (by_last_byte (last_byte word)) (by_inner_byte word)

-- the third byte of a word, and 0 if there is none
abbrev pub third_byte : List ℕ → ℕ
third_byte word = unwrap_or (slice_get word 2) 0

-- whether a word begins with a typographic quote, U+2018 to U+201F
abbrev pub begins_curly : List ℕ → Bool
begins_curly word = starts_with (λ a b. a == b) word (226 ∷ 128 ∷ []) && (nat_le 152 (third_byte word) && nat_le (third_byte word) 159)

-- whether a word begins a comment of another notation: `//`, `/*` or `--`
abbrev pub begins_comment : List ℕ → Bool
begins_comment word = starts_with (λ a b. a == b) word (codes "//") || (starts_with (λ a b. a == b) word (codes "/*") || starts_with (λ a b. a == b) word (codes "--"))

-- the hint for a word that begins with a double quote. If another quote is inside, it is that of the
-- later bytes. A literal has none. Any other word is a literal that does not end
abbrev pub by_quote : List ℕ → Option Hint
by_quote word =
    if nat_lt (length word) 2 then Some Literal else (
    if has_byte 34 (take (length word - 1 - 1) (drop 1 word)) then by_later_byte word else (
    if last_byte word == 34 then None else Some Literal))

-- the hint for a word by the signs in it: a byte order mark (RFC 3629, section 6), a typographic
-- quote, or one of the above
abbrev pub by_sign : List ℕ → Option Hint
by_sign word =
    if starts_with (λ a b. a == b) word (239 ∷ 187 ∷ 191 ∷ []) then Some ByteOrderMark else (
    if begins_curly word then Some CurlyQuotes else (
    if begins_comment word then Some Comment else (
    if first_byte word == 34 then by_quote word else
    or_else (by_first_byte (first_byte word)) (by_later_byte word))))

-- whether a word is the sign of productions in another notation
abbrev pub is_arrow : List ℕ → Bool
is_arrow word = bytes_eq word (codes "->") || (bytes_eq word (codes "::=") || (bytes_eq word (codes ":=") || (bytes_eq word (codes "=>") || (bytes_eq word (codes "<-") || bytes_eq word (codes "==")))))

-- the hint for a word, and a usual one if nothing about the word is known
abbrev pub word_hint : List ℕ → Hint → Hint
word_hint word usual = if is_arrow word then Equals else unwrap_or (by_sign word) usual

-- the hint for a word in the place of `=`
abbrev pub equals_hint : List ℕ → Hint
equals_hint word = if is_arrow word || (last_byte word == 58) then Equals else Production

-- whether a byte is a sign that is often a terminal: `+`, `-`, `/`, `<` or `>`
abbrev pub is_sign : ℕ → Bool
is_sign b = (b == 43) || ((b == 45) || ((b == 47) || ((b == 60) || (b == 62))))

-- whether a word is one sign that is often a terminal
abbrev pub is_lone_sign : List ℕ → Bool
is_lone_sign word = (length word == 1) && is_sign (first_byte word)

-- the hint for a word in the place of a symbol
abbrev pub symbol_hint : List ℕ → Hint
symbol_hint word =
    if bytes_eq word (codes "=") then Production else (
    if is_lone_sign word then DoubleQuotes else
    word_hint word Symbol)

-- the hint for a faulty word
abbrev pub hint_of : Reason → List ℕ → Hint
hint_of reason.NoLeftSide word = Production
hint_of reason.LeftSide word = word_hint word Name
hint_of reason.NoEquals word = Production
hint_of reason.NotEquals word = equals_hint word
hint_of reason.Mark word = word_hint word Name
hint_of reason.AfterMark word = Mark
hint_of reason.EmptyLiteral word = EmptyRight
hint_of reason.Symbol word = symbol_hint word

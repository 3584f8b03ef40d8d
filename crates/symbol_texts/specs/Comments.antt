-- The comments of symbols and of productions.
use Rattle.std.specs.Prelude.{ℕ, nat_le, ◌&&◌, false, if◌then◌else◌, List, [], ◌∷◌, ◌++◌, codes, map, string_bytes}
use Rattle.std.specs.Char.{encode_utf8}
use Rattle.std.specs.Fmt.{digits}
use Rattle.std.specs.List.{flat_map}
use Rattle.std.specs.Str.{chars}
use Rattle.symbol_texts.specs.declared.grammar.ProductionText.{ProductionText}
use Rattle.symbol_texts.specs.declared.grammar.SymbolText.{SymbolText}

-- a character as it is shown: a printable one of ASCII as it is, and any other by its number
abbrev pub visible_char : ℕ → List ℕ
visible_char c = if nat_le 32 c && nat_le c 126 then encode_utf8 c else codes "\\u{" ++ (digits 16 false c ++ codes "}")

-- a text as it is shown, character by character
abbrev pub visible_text : List ℕ → List ℕ
visible_text text = flat_map visible_char (chars text)

-- a terminal in quotes
abbrev pub terminal_comment : List ℕ → List ℕ
terminal_comment text = codes "\"" ++ (visible_text text ++ codes "\"")

-- a symbol: a terminal in quotes, or a nonterminal as it is
abbrev pub symbol_comment : SymbolText → List ℕ
symbol_comment s = if s.is_terminal then terminal_comment (string_bytes s.text) else string_bytes s.text

-- a symbol after a space
abbrev pub spaced_symbol : SymbolText → List ℕ
spaced_symbol s = codes " " ++ symbol_comment s

-- a production: its nonterminal, an equals sign, and its symbols
abbrev pub production_comment : ProductionText → List ℕ
production_comment p = string_bytes p.left ++ (codes " =" ++ flat_map spaced_symbol p.right.items)

-- a terminal, a nonterminal and a production between two quotes
abbrev pub quoted_terminal : List ℕ → List ℕ → List ℕ
quoted_terminal quote text = quote ++ (terminal_comment text ++ quote)

abbrev pub quoted_name : List ℕ → List ℕ → List ℕ
quoted_name quote name = quote ++ (name ++ quote)

abbrev pub quoted_production : List ℕ → ProductionText → List ℕ
quoted_production quote p = quote ++ (production_comment p ++ quote)

-- the comments of terminals and of the end of the input
abbrev pub terminal_comments : List ℕ → List (List ℕ) → List (List ℕ)
terminal_comments quote terminals = map (quoted_terminal quote) terminals ++ codes "the end of the input" ∷ []

-- the comments of nonterminals
abbrev pub nonterminal_comments : List ℕ → List (List ℕ) → List (List ℕ)
nonterminal_comments quote names = map (quoted_name quote) names

-- the comments of productions
abbrev pub production_comments : List ℕ → List ProductionText → List (List ℕ)
production_comments quote productions = map (quoted_production quote) productions

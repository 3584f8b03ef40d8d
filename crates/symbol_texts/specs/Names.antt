-- The names of the symbols and of the productions of a grammar.
use Rattle.std.specs.Prelude.{ℕ, nat_le, nat_lt, Bool, true, false, ◌&&◌, ◌==◌, if◌then◌else◌, List, [], ◌∷◌, ◌++◌, codes, length, map, string_bytes, take}
use Rattle.std.specs.List.{flat_map}
use Rattle.symbol_texts.specs.Distinct.{distinct_names}
use Rattle.symbol_texts.specs.Style.{mark_of, reserved_in, words_in}
use Rattle.symbol_texts.specs.declared.grammar.ProductionText.{ProductionText}
use Rattle.symbol_texts.specs.declared.grammar.SymbolText.{SymbolText}
use Rattle.symbol_texts.specs.declared.style.Style.{Style}

-- whether the first byte is that of a digit
abbrev pub begins_with_a_digit : List ℕ → Bool
begins_with_a_digit [] = false
begins_with_a_digit (b ∷ bs) = nat_le 48 b && nat_le b 57

-- words as a name, which has an `N` before it if it would begin with a digit
abbrev pub as_name : List ℕ → List ℕ
as_name words = if begins_with_a_digit words then codes "N" ++ words else words

-- the name of a symbol, which another one may have, too
abbrev pub symbol_name : Style → List ℕ → List ℕ
symbol_name style symbol = as_name (words_in style false symbol)

-- the words of a symbol of a right side
abbrev pub symbol_words : Style → SymbolText → List ℕ
symbol_words style symbol = words_in style true (string_bytes symbol.text)

-- the words of up to six symbols of a right side, or `empty` if it has none
abbrev pub right_words : Style → List SymbolText → List ℕ
right_words style right = if length right == 0 then words_in style true (codes "empty") else flat_map (symbol_words style) (take 6 right)

-- the name of a production, which another one may have, too
abbrev pub production_name : Style → ProductionText → List ℕ
production_name style p = as_name (words_in style false (string_bytes p.left) ++ (words_in style true (codes "is") ++ right_words style p.right.items))

-- the name of a production of more than six symbols, and nothing for another one
abbrev pub long_name : Style → ProductionText → List (List ℕ)
long_name style p = if nat_lt 6 (length p.right.items) then production_name style p ∷ [] else []

-- the names of terminals, and that of the end of the input after them
abbrev pub terminal_names : Style → List (List ℕ) → List (List ℕ)
terminal_names style terminals = distinct_names (map (symbol_name style) terminals) (mark_of style) (reserved_in style ++ symbol_name style (codes "end") ∷ []) ++ symbol_name style (codes "end") ∷ []

-- the names of nonterminals
abbrev pub nonterminal_names : Style → List (List ℕ) → List (List ℕ)
nonterminal_names style nonterminals = distinct_names (map (symbol_name style) nonterminals) (mark_of style) (reserved_in style)

-- the names of productions, of which one of more than six symbols has its number
abbrev pub production_names : Style → List ProductionText → List (List ℕ)
production_names style productions = distinct_names (map (production_name style) productions) (mark_of style) (reserved_in style ++ flat_map (long_name style) productions)

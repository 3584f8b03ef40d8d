-- The ways to inline a nonterminal into a right side. Each of its occurrences is replaced by any
-- one of its alternatives, whatever replaces the others.
use Rattle.std.specs.Prelude.{Bool, false, cond, List, [], ◌∷◌, ◌++◌, map}
use Rattle.std.specs.List.{flat_map, list_any}
use Rattle.std.specs.Str.{bytes_eq}
use Rattle.lalrpop_grammar.specs.declared.repr.NonterminalString.{NonterminalString}
use Rattle.lalrpop_grammar.specs.declared.repr.Symbol.{Symbol}
use Rattle.lalrpop_grammar.specs.declared.repr.Symbol.TheVariants.{Nonterminal, Terminal}
use Rattle.lalrpop_grammar.specs.declared.repr.Production.{Production}
use Rattle.lalrpop_grammar.specs.declared.repr.inlined.InlinedSymbol.{InlinedSymbol}
use Rattle.lalrpop_grammar.specs.declared.repr.inlined.InlinedSymbol.TheVariants.{Original, Inlined}

-- whether a symbol is the nonterminal of a name
abbrev pub is_named : NonterminalString → Symbol → Bool
is_named b (Nonterminal a) = bytes_eq a.text b.text
is_named b (Terminal t) = false

-- whether symbols mention a nonterminal
abbrev pub mentions : NonterminalString → List Symbol → Bool
mentions b symbols = list_any (is_named b) symbols

-- an alternative as a part, which replaces a nonterminal
abbrev pub inlined : Production → InlinedSymbol
inlined p = Inlined p.action p.symbols

-- the parts that may replace a symbol: the alternatives if it is the nonterminal that is inlined,
-- else the symbol itself
abbrev pub parts : NonterminalString → List Production → Symbol → List InlinedSymbol
parts b alternatives x = cond (is_named b x) (map inlined alternatives) (Original x ∷ [])

-- the given list followed by each of the lists
abbrev pub prefixed : List InlinedSymbol → List (List InlinedSymbol) → List (List InlinedSymbol)
prefixed chosen cs = map (λ (c : List InlinedSymbol). chosen ++ c) cs

-- one list for each choice of a part in the place of each symbol; the leftmost place varies slowest
abbrev pub choices : NonterminalString → List Production → List Symbol → List (List InlinedSymbol)
choices b alternatives [] = [] ∷ []
choices b alternatives (x ∷ rest) = flat_map (λ (part : InlinedSymbol). prefixed (part ∷ []) (choices b alternatives rest)) (parts b alternatives x)

-- the list followed by each of the parts, in turn
abbrev pub followed : List InlinedSymbol → List InlinedSymbol → List (List InlinedSymbol)
followed front parts = map (λ (part : InlinedSymbol). front ++ part ∷ []) parts

-- each list followed by each of the parts; the list varies slowest
abbrev pub extended : List InlinedSymbol → List (List InlinedSymbol) → List (List InlinedSymbol)
extended parts fronts = flat_map (λ (front : List InlinedSymbol). followed front parts) fronts

-- each list followed by each of the others; the first varies slowest
abbrev pub completed : List (List InlinedSymbol) → List (List InlinedSymbol) → List (List InlinedSymbol)
completed fronts cs = flat_map (λ (front : List InlinedSymbol). prefixed front cs) fronts

-- the symbols of a part
abbrev pub part_symbols : InlinedSymbol → List Symbol
part_symbols (Original x) = x ∷ []
part_symbols (Inlined action symbols) = symbols

-- the right side that parts make: their symbols, one part after another
abbrev pub laid_out : List InlinedSymbol → List Symbol
laid_out parts = flat_map part_symbols parts

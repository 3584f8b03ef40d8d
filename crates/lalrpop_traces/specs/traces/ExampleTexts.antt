-- The text of an example: its symbols, with a mark at the place up to which the input was read.
use Rattle.std.specs.Prelude.{ℕ, List, [], ◌++◌, take, drop, codes}
use Rattle.std.specs.List.{flat_map}
use Rattle.lalrpop_base.specs.Words.{symbol_text}
use Rattle.lalrpop_traces.specs.declared.trace.example.ExampleSymbol.{ExampleSymbol}
use Rattle.lalrpop_traces.specs.declared.trace.example.ExampleSymbol.TheVariants.{Symbol as SymbolOf, Epsilon}

-- a symbol before the mark, and a space; the place of a right side without symbols prints nothing
abbrev pub before_mark : ExampleSymbol → List ℕ
before_mark (SymbolOf x) = symbol_text x ++ codes " "
before_mark Epsilon = []

-- a space, and a symbol after the mark
abbrev pub after_mark : ExampleSymbol → List ℕ
after_mark (SymbolOf x) = codes " " ++ symbol_text x
after_mark Epsilon = []

-- symbols with a mark before the one at the place, or after all if there is none
abbrev pub example_text : List ExampleSymbol → ℕ → List ℕ
example_text symbols place = flat_map before_mark (take place symbols) ++ (codes "(*)" ++ flat_map after_mark (drop place symbols))

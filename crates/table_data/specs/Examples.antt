-- Examples of input as JSON.
use Rattle.std.specs.Prelude.{ℕ, List, ◌++◌, codes}
use Rattle.std.specs.Fmt.{decimal}
use Rattle.lalrpop_traces.specs.declared.trace.example.Example.{Example}
use Rattle.lalrpop_traces.specs.declared.trace.example.ExampleSymbol.{ExampleSymbol}
use Rattle.lalrpop_traces.specs.declared.trace.example.ExampleSymbol.TheVariants.{Symbol as SymbolOf, Epsilon}
use Rattle.lalrpop_traces.specs.declared.trace.example.Reduction.{Reduction}
use Rattle.table_data.specs.declared.examples.ShownItem.{ShownItem}
use Rattle.table_data.specs.Json.{array}
use Rattle.table_data.specs.Names.{name_json, symbol_json}

-- a symbol of an example, or null for the mark of a right side without symbols
abbrev pub word_json : ExampleSymbol → List ℕ
word_json (SymbolOf x) = symbol_json x
word_json Epsilon = codes "null"

-- a reduction of an example: the place of the first symbol that it takes, the place after the last
-- one, and the nonterminal to which these are reduced
abbrev pub reduced_json : Reduction → List ℕ
reduced_json r = codes "{\"start\":" ++ (decimal r.start ++ (codes ",\"end\":" ++ (decimal r.end ++ (codes ",\"nonterminal\":" ++ (name_json r.nonterminal ++ codes "}")))))

-- an example: its symbols, how many were read, and its reductions, innermost first
abbrev pub example_json : Example → List ℕ
example_json e = codes "{\"symbols\":" ++ (array (codes ",") word_json e.symbols.items ++ (codes ",\"place\":" ++ (decimal e.cursor
    ++ (codes ",\"reductions\":" ++ (array (codes ",") reduced_json e.reductions.items ++ codes "}")))))

-- an item that is shown: the number of its production, the place of its dot, and its examples
abbrev pub shown_json : ShownItem → List ℕ
shown_json item = codes "{\"production\":" ++ (decimal item.production ++ (codes ",\"dot\":" ++ (decimal item.dot ++ (codes ",\"examples\":" ++ (array (codes ",") example_json item.examples.items ++ codes "}")))))

-- Productions as JSON.
use Rattle.std.specs.Prelude.{ℕ, List, ◌++◌, codes}
use Rattle.std.specs.Fmt.{decimal}
use Rattle.lalrpop_grammar.specs.declared.repr.Production.{Production}
use Rattle.table_data.specs.Json.{array}
use Rattle.table_data.specs.Names.{name_json, symbol_json}

-- a production: the number of its action, its nonterminal and the symbols of its right side
abbrev pub production_json : Production → List ℕ
production_json p = codes "{\"number\":" ++ (decimal p.action.0 ++ (codes ",\"nonterminal\":" ++ (name_json p.nonterminal
    ++ (codes ",\"symbols\":" ++ (array (codes ",") symbol_json p.symbols ++ codes "}")))))

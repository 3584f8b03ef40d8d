use Rattle.std.proofs.Common.{◌∙◌, ◌++◌, ap, codes, string_bytes}
use Rattle.std.specs.Borrow.{Bor}
use Rattle.lalrpop_grammar.specs.declared.repr.Production.{Production}
use Rattle.table_data.specs.Json.{array}
use Rattle.table_data.specs.Rules.{production_json}
use Rattle.table_data.proofs.Loops.{array_of, grew_by}
use Rattle.table_data.proofs.rules.push_productions.Goals as goal

pub returns : goal.returns
returns c =
    grew_by (array (codes ",\n") (λ (p : Bor Production). production_json p.now)) _ _ _ _ c.in_ok-push_array.ensures c.deref.ensures.value
    ∙ ap (λ t. string_bytes c.args.text.now ++ t) (array_of (codes ",\n") production_json (λ (p : Bor Production). p.now) c.in_ok-all.all.items ∙ ap (array (codes ",\n") production_json) c.in_ok-all.ensures)

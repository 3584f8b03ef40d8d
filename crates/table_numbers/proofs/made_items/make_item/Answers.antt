use Rattle.std.proofs.Common.{◌≡◌, slice_get, Some, option_map, refl, sym, ◌∙◌, ap}
use Rattle.std.specs.Borrow.{Bor}
use Rattle.std.proofs.lemmas.Option.{slice_get-map}
use Rattle.lalrpop_base.specs.Words.{Bits}
use Rattle.lalrpop_collections.proofs.theory.lists.Places.{slice_get_at}
use Rattle.lalrpop_grammar.specs.declared.repr.Production.{Production}
use Rattle.table_numbers.specs.Made.{borrowed}
use Rattle.table_numbers.proofs.ItemLemmas.{same_parts}
use Rattle.table_numbers.proofs.made_items.make_item.Goals as goal

pub returns : goal.returns
returns c =
    let ps = c.args.productions.now in
    let sets = c.args.sets.now in
    let item = c.args.item.now in
    let production = c.in-Some.production.now in
    let first = c.in-Some.ensures.lookup in
    let second = c.in-Some-get.ensures.lookup in
    let listed : slice_get (borrowed ps) item.production ≡ Some production.now = slice_get-map (λ (p : Bor Production). p.now) ps item.production ∙ ap (option_map (λ (p : Bor Production). p.now)) (slice_get_at ps item.production production first.3.0 first.1) in
    let held : slice_get sets item.lookahead ≡ Some c.in_ok-clone.field-0 = slice_get_at sets item.lookahead c.in-Some-get.tokens.now second.3.0 second.1 ∙ ap (λ (s : Bits). Some s) (sym c.in_ok-clone.ensures) in
    same_parts _ _ _ _ _ _ listed refl held

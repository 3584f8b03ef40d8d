use Rattle.std.proofs.Common.{◌≡◌, ◌-◌, sym, ◌∙◌, ap, subst, arith, refl}
use Rattle.std.specs.Prelude.{Some}
use Rattle.std.proofs.lemmas.Option.{IfSome_then}
use Rattle.lalrpop_states.specs.Words.{Dotted, HasItem}
use Rattle.lalrpop_states.proofs.lr1_core.coherent.source_place.Goals as goal

pub returns-in-Some-clause-found : goal.returns-in-Some-clause-found
returns-in-Some-clause-found g c = λ moved. record {
  over = c.shifted_symbol.ensures ∙ ap (λ s. Some s) (c.if-not-is_symbol.ensures.0 refl);
  origin = subst (λ (d : Dotted g.row.L.Denot). HasItem c.args.source.now d.production (d.index - 1)) c.item.view_is c.in-Some.ensures.found;
}

pub returns-in-None-clause-found : goal.returns-in-None-clause-found
returns-in-None-clause-found g c = IfSome_then c.item_place-in-None.result c.item_place-in-None.ensures.found (λ place has moved. record {
  over = c.shifted_symbol.ensures ∙ ap (λ s. Some s) (c.if-not-is_symbol.ensures.0 refl);
  origin = subst (λ (d : Dotted g.row.L.Denot). HasItem c.args.source.now d.production (d.index - 1)) c.item.view_is has;
})

pub returns-in-None-clause-absent : goal.returns-in-None-clause-absent
returns-in-None-clause-absent g c = λ none shifted.
    let dot : c.item.inside.index ≡ c.args.item.now.index = ap (λ (d : Dotted g.row.L.Denot). d.index) c.item.view_is in
    c.item_place-in-None.ensures.absent none refl
    (subst (λ (d : Dotted g.row.L.Denot). HasItem c.args.source.now d.production (d.index - 1)) (sym c.item.view_is) (shifted (omega arith)).origin)

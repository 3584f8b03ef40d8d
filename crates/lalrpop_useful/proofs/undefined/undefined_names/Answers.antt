use Rattle.std.proofs.Common.{◌≡◌, ◌∙◌, ◌+◌, ◌++◌, ◌∷◌, [], subst, sym, ap, map, take, List, rules}
use Rattle.std.specs.Borrow.{Bor}
use Rattle.std.proofs.lemmas.List.{map-append, take_more, take_all}
use Rattle.lalrpop_grammar.specs.Words.{productions}
use Rattle.lalrpop_useful.proofs.Types.{Production, Symbol}
use Rattle.lalrpop_useful.specs.Words.{AddsUndefined}
use Rattle.lalrpop_useful.proofs.theory.useful.Undefined.{IsListing, Listing-start, Listing-first, Listing-undefined, Listing-more}
use Rattle.lalrpop_useful.proofs.undefined.undefined_names.Goals as goal

abbrev seen : List (Bor Production) → List Production
seen ps = map (λ (p : Bor Production). p.now) ps

pub loop-production-init : goal.loop-production-init
loop-production-init c = Listing-start (productions c.args.grammar.now) c.new-uses.result.items (search rules)

pub loop-production-preserved : goal.loop-production-preserved
loop-production-preserved c =
    let g = productions c.args.grammar.now in
    let ps : List (Bor Production) = c.deref-production-items.result.now in
    let i = c.loop-production.production-index in
    let p : Bor Production = c.production-item.result in
    let more : take (i + 1) ps ≡ take i ps ++ p ∷ [] = take_more ps i p c.loop-production-test.true ∙ ap (λ (q : Bor Production). take i ps ++ q ∷ []) (sym c.production-item.is) in
    let pushed : seen (take (i + 1) ps) ≡ seen (take i ps) ++ p.now ∷ [] = ap seen more ∙ map-append (λ (q : Bor Production). q.now) (take i ps) (p ∷ []) in
    subst (λ (qs : List Production). IsListing g qs c.add_uses.new.uses.items) (sym pushed)
    (Listing-more g (seen (take i ps)) p.now _ _ c.loop-production.invariant
    (subst (λ (l : List Symbol). AddsUndefined g p.now l c.loop-production.uses.items c.add_uses.new.uses.items) c.as_slice.ensures c.in_ok-add_uses.ensures))

pub returns : goal.returns
returns c =
    let g = productions c.args.grammar.now in
    let uses = c.loop-production.uses.items in
    let ps : List (Bor Production) = c.deref-production-items.result.now in
    let whole : IsListing g (seen ps) uses = subst (λ (qs : List (Bor Production)). IsListing g (seen qs) uses) (take_all c.loop-production.production-index ps c.loop-production-test.false) c.loop-production.invariant in
    let all : IsListing g g uses = subst (λ (qs : List Production). IsListing g qs uses) (ap seen c.deref-production-items.ensures.value ∙ c.in_ok-all.ensures) whole in
    record { undefined = Listing-undefined g uses all; first = Listing-first g uses all; once = all.differ }

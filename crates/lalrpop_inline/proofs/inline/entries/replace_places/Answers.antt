use Rattle.std.proofs.Common.{rules, ◌≡◌, ◌∷◌, [], List, arith, sym, ◌∙◌, ap}
use Rattle.std.proofs.lemmas.Grind.{common_steps}
use Rattle.lalrpop_inline.proofs.Types.{NonterminalString}
use Rattle.lalrpop_inline.specs.inlining.InlineSteps.{view_with}
use Rattle.lalrpop_inline.specs.Words.{replaced_places}
use Rattle.lalrpop_inline.proofs.theory.inlining.InlinePlaces.{place_past}
use Rattle.lalrpop_inline.proofs.inline.entries.replace_places.Goals as goal

pub loop-place-init : goal.loop-place-init
loop-place-init c =
    ap (λ (l : List NonterminalString). replaced_places c.args.name.now c.args.alternatives.now l (view_with c.args.nonterminals.now.entries c.args.defns.now.items)) (c.into_iter-place-iterator.ensures.into_iter_gives ∙ c.iter-place-items.ensures.rest)

pub loop-place-preserved : goal.loop-place-preserved
loop-place-preserved c =
    let b = c.args.name.now in
    let alternatives = c.args.alternatives.now in
    let here : List NonterminalString = c.loop-place.place-iterator in
    let rest : List NonterminalString = c.next.new.self in
    let next : here ≡ c.in-Some.place.now ∷ rest = grind (arith, common_steps) in
    ap (replaced_places b alternatives rest) c.in_ok-replace_at.ensures.ok
    ∙ ap (λ (l : List NonterminalString). replaced_places b alternatives l (view_with c.loop-place.nonterminals.entries c.loop-place.defns.items)) (sym next)
    ∙ c.loop-place.invariant

pub returns-in_err-replace_at-clause-err : goal.returns-in_err-replace_at-clause-err
returns-in_err-replace_at-clause-err c =
    let here : List NonterminalString = c.loop-place.place-iterator in
    let rest : List NonterminalString = c.next.new.self in
    let next : here ≡ c.in-Some.place.now ∷ rest = grind (arith, common_steps) in
    let past = place_past c.args.name.now c.args.alternatives.now c.in-Some.place.now rest here (view_with c.loop-place.nonterminals.entries c.loop-place.defns.items) _ c.in_err-replace_at.field-0.0 next c.loop-place.invariant c.in_err-replace_at.ensures.err in
    search (rules, past)

pub returns-clause-ok : goal.returns-clause-ok
returns-clause-ok c =
    let here : List NonterminalString = c.loop-place.place-iterator in
    let none : here ≡ [] = grind (arith, common_steps) in
    ap (λ (l : List NonterminalString). replaced_places c.args.name.now c.args.alternatives.now l (view_with c.loop-place.nonterminals.entries c.loop-place.defns.items)) (sym none) ∙ c.loop-place.invariant

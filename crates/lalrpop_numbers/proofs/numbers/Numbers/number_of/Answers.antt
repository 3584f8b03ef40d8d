use Rattle.std.proofs.Common.{◌≡◌, ◌∙◌, ◌+◌, ◌-◌, ◌≤◌, List, Some, length, refl, sym, ap, subst, arith}
use Rattle.std.specs.Prelude.{slice_get, Contains}
use Rattle.std.proofs.lemmas.Option.{slice_get_within}
use Rattle.lalrpop_states.specs.Words.{Dotted}
use Rattle.lalrpop_numbers.proofs.Types.{Nil}
use Rattle.lalrpop_collections.proofs.theory.lists.Places.{same_some, slice_get_at}
use Rattle.lalrpop_numbers.proofs.theory.numbers.ProductionPlaces.{dot_within, stands_beside}
use Rattle.lalrpop_numbers.proofs.numbers.Numbers.number_of.Goals as goal

-- the dotted production that the search reaches is one of the production that is sought
there : (c : goal.After-met) → (i : Dotted Nil) × (slice_get c.args.self.now.items.items c.in-Some.place ≡ Some i) × (i.production ≡ c.args.item.now.production) × (c.met.inside.index ≡ i.index)
there c =
    let items : List (Dotted Nil) = c.args.self.now.items.items in
    let found = c.in-Some.ensures.found in
    let at : slice_get items c.in-Some.place ≡ Some found.0 = subst (λ (is : List (Dotted Nil)). slice_get is c.in-Some.place ≡ Some found.0) c.deref.ensures.value found.1 in
    let within = slice_get_within items c.in-Some.place found.0 at in
    let same : c.index-met.result.now ≡ found.0 = same_some c.index-met.result.now found.0 (sym (slice_get_at items c.in-Some.place c.index-met.result.now within c.index-met.ensures) ∙ at) in
    (found.0, at, found.2 ∙ ap (λ (i : Dotted Nil). i.production) c.item.view_is, ap (λ (i : Dotted Nil). i.index) (c.met.view_is ∙ same))

-- the dotted production that is sought is as far from it as their dots are apart
beside : (c : goal.After-met) → slice_get c.args.self.now.items.items (c.in-Some.place - c.met.inside.index + c.item.inside.index) ≡ Some c.args.item.now
beside c =
    let items : List (Dotted Nil) = c.args.self.now.items.items in
    let numbers = c.requires.1 in
    let met = there c in
    let dot : c.item.inside.index ≡ c.args.item.now.index = ap (λ (i : Dotted Nil). i.index) c.item.view_is in
    let within : c.args.item.now.index ≤ length c.args.item.now.production.symbols = subst (λ (i : Dotted Nil). i.index ≤ length i.production.symbols) c.item.view_is c.item.invariant in
    let place : c.in-Some.place - c.met.inside.index + c.item.inside.index ≡ c.in-Some.place - met.0.index + c.args.item.now.index = omega (arith, met.3) in
    ap (slice_get items) place ∙ stands_beside c.requires.0 items numbers.items numbers.next c.in-Some.place met.0 met.1 c.args.item.now met.2 within

pub overflow_sub-result : goal.overflow_sub-result
overflow_sub-result c =
    let met = there c in
    let within = dot_within c.requires.0 c.args.self.now.items.items c.requires.1.items c.requires.1.next c.in-Some.place met.0 met.1 in
    omega (arith, met.3)

pub overflow_add-result : goal.overflow_add-result
overflow_add-result c =
    let within = slice_get_within c.args.self.now.items.items (c.in-Some.place - c.met.inside.index + c.item.inside.index) c.args.item.now (beside c) in
    let counted = c.args.self.now.items.ok.0 in
    let room = c.args.self.now.items.ok.1 in
    let small = c.args.self.now.items.small in
    omega arith

pub returns-in-Some-clause-found : goal.returns-in-Some-clause-found
returns-in-Some-clause-found c = beside c

pub returns-in-None-clause-none : goal.returns-in-None-clause-none
returns-in-None-clause-none c = λ none there.
    let among = subst (λ (is : List (Dotted Nil)). Contains is c.args.item.now) (sym c.deref.ensures.value) there in
    let same = ap (λ (i : Dotted Nil). i.production) c.item.view_is in
    c.in-None.ensures.none refl c.args.item.now among (sym same)

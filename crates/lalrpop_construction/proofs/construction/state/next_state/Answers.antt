use Rattle.std.proofs.Common.{◌≡◌, ◌∙◌, ℕ, List, Some, ap, sym, subst}
use Rattle.std.specs.Prelude.{slice_get}
use Rattle.lalrpop_base.specs.Words.{Dotted, IsClosureBy, AreAllNumbered, items_by}
use Rattle.lalrpop_construction.specs.states.NumberedStates.{AreItemsAt}
use Rattle.lalrpop_numbers.specs.declared.numbers.numbered.Numbered.{Numbered}
use Rattle.lalrpop_collections.proofs.theory.lists.Members.{contains_map}
use Rattle.lalrpop_collections.proofs.theory.lists.Places.{contains_at}
use Rattle.lalrpop_construction.proofs.theory.states.ItemNumbers.{items_at_by}
use Rattle.lalrpop_construction.proofs.theory.construction.NumberedBuilding.{Building-grown}
use Rattle.lalrpop_construction.proofs.construction.state.next_state.Goals as goal

pub closure-requires-clause-known : goal.closure-requires-clause-known
closure-requires-clause-known g c =
    let list = ap (λ k. k.list) c.in-Some.ensures.some in
    c.requires.made.1.numbered c.items.result.now (contains_at c.args.kernels.now.list c.items.result.now c.in-Some.number (rw list at c.items.ensures))

pub closure-requires-clause-kernel : goal.closure-requires-clause-kernel
closure-requires-clause-kernel g c =
    let items = c.args.numbers.now.items.items in
    let list = ap (λ k. k.list) c.in-Some.ensures.some in
    c.requires.made.1.building.of (items_by items c.items.result.now) (contains_map (items_by items) c.args.kernels.now.list c.items.result.now (contains_at c.args.kernels.now.list c.items.result.now c.in-Some.number (rw list at c.items.ensures)))

pub state_of-requires-clause-kernels : goal.state_of-requires-clause-kernels
state_of-requires-clause-kernels g c = subst (AreAllNumbered c.args.numbers.now.items.items) (sym (ap (λ k. k.list) c.in-Some.ensures.some)) c.requires.made.1.numbered

pub returns-clause-made : goal.returns-clause-made
returns-clause-made g c = λ states made.
    let items = c.args.numbers.now.items.items in
    let rules = c.args.lr.now.construction.rules in
    let C = IsClosureBy g.L.Lookahead.meaning g.L.LookaheadBuild.begins g.L.LookaheadBuild.passes rules in
    let kernel : List (Numbered g.row.L.Denot) = c.items.result.now in
    let list = ap (λ k. k.list) c.in-Some.ensures.some in
    let next : slice_get c.args.kernels.now.list c.args.kernels.now.handed ≡ Some kernel = rw (list, c.in-Some.ensures.next) at c.items.ensures in
    let closed : C (items_by items kernel) c.in_ok-state.state.items.vec.items = subst (C (items_by items kernel)) (sym c.in_ok-state.ensures.items) c.in_ok-list.ensures.closed in
    let built = rw (c.in-Some.ensures.next, made.building.handed) at (c.in_ok-state.ensures.built rules (items_by items kernel) closed) in
    let extends = c.in_ok-state.ensures.extends rules closed.are_items in
    let building = Building-grown _ _ _ _ items c.args.kernels.now c.next.new.self c.state_of.new.kernels states kernel made.building next c.in-Some.ensures.some extends c.in_ok-state.state built c.in_ok-state.ensures.led in
    record { building = building; numbered = c.in_ok-state.ensures.known }

pub returns-clause-by_number : goal.returns-clause-by_number
returns-clause-by_number g c =
    let items = c.args.numbers.now.items.items in
    let made = rw c.deref.ensures.value at c.in_ok-list_numbers.ensures in
    let at =
    subst (λ (is : List (Dotted g.row.L.Denot)). AreItemsAt items c.list_numbers.new.numbers.items is) (sym c.in_ok-state.ensures.items)
    (subst (λ (ks : List ℕ). AreItemsAt items ks (items_by items c.in_ok-list.list.items)) (sym made) (items_at_by items c.in_ok-list.list.items c.in_ok-list.ensures.known)) in
    record { items = at; edges = c.in_ok-state.ensures.by_number; finished = c.in_ok-state.ensures.finished }

pub returns-clause-counted : goal.returns-clause-counted
returns-clause-counted g c =
    let rules = c.args.lr.now.construction.rules in
    let C = IsClosureBy g.L.Lookahead.meaning g.L.LookaheadBuild.begins g.L.LookaheadBuild.passes rules in
    let kernel : List (Dotted g.row.L.Denot) = items_by c.args.numbers.now.items.items c.items.result.now in
    let closed : C kernel c.in_ok-state.state.items.vec.items = subst (C kernel) (sym c.in_ok-state.ensures.items) c.in_ok-list.ensures.closed in
    (c.in_ok-state.ensures.extends rules closed.are_items).handed ∙ ap (λ k. k.handed) c.in-Some.ensures.some

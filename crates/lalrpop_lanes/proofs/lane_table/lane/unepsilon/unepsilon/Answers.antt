use Rattle.std.proofs.Common.{◌≡◌, ◌+◌, ◌++◌, ◌∷◌, [], sym, ◌∙◌, ap, subst, take, List, get_or}
use Rattle.std.specs.Prelude.{Contains}
use Rattle.std.proofs.lemmas.List.{take_more, take_all}
use Rattle.std.proofs.lemmas.Option.{slice_get-get_or}
use Rattle.lalrpop_base.specs.Words.{Dotted, rules_of}
use Rattle.lalrpop_lanes.specs.Words.{GivesBit, GivesCell, GivesSuccessor}
use Rattle.lalrpop_construction.specs.Words.{places_in}
use Rattle.lalrpop_lanes.proofs.theory.lanes.GainsSome.{on_err, GainsSome-same}
use Rattle.lalrpop_collections.proofs.theory.lists.Members.{Contains-take}
use Rattle.lalrpop_collections.proofs.theory.lists.Places.{slice_get_at, contains_at}
use Rattle.lalrpop_lanes.proofs.theory.lanes.Unepsilon.{IsFollowing, Following-start, Following-more, Unepsilon-gains, Unepsilon-part, Unepsilon-visits}
use Rattle.lalrpop_lanes.proofs.lane_table.lane.unepsilon.unepsilon.Goals as goal

pub loop-item-init : goal.loop-item-init
loop-item-init g c = Following-start (rules_of c.args.automaton.now.grammar.now) c.name-name.result.now c.args.place.now.state c.args.conflict.index c.add_end.new.table c.args.walk.now

pub follow-requires-clause-own : goal.follow-requires-clause-own
follow-requires-clause-own g c =
    let states = c.args.automaton.now.states.now in
    let state = get_or states c.args.place.now.state c.index-automaton-state.result in
    let there = slice_get-get_or states c.args.place.now.state c.index-automaton-state.result c.requires.listed in
    let item = c.item-item.result in
    let at = slice_get_at c.deref-item-items.result.now c.loop-item.item-index item c.loop-item-test.true c.item-item.is in
    let among : Contains c.deref-item-items.result.now item = contains_at c.deref-item-items.result.now item c.loop-item.item-index at in
    c.requires.automaton.own c.args.place.now.state state item there (subst (λ (items : List (Dotted _)). Contains items item) c.deref-item-items.ensures.value among)

pub returns-in_err-follow-clause-in_range : goal.returns-in_err-follow-clause-in_range
returns-in_err-follow-clause-in_range g c = λ r. c.in_err-follow.ensures.in_range (c.loop-item.invariant.in_range (c.in_ok-add_end.ensures.in_range r))

pub loop-item-preserved : goal.loop-item-preserved
loop-item-preserved g c =
    let items : List (Dotted _) = c.deref-item-items.result.now in
    let i = c.loop-item.item-index in
    let item = c.item-item.result in
    let more : take (i + 1) items ≡ take i items ++ item ∷ [] = take_more items i item c.loop-item-test.true ∙ ap (λ (x : Dotted _). take i items ++ x ∷ []) (sym c.item-item.is) in
    subst (λ (xs : List (Dotted _)). IsFollowing (rules_of c.args.automaton.now.grammar.now) c.name-name.result.now c.args.place.now.state c.args.conflict.index xs c.add_end.new.table c.follow.new.table c.args.walk.now c.follow.new.walk) (sym more)
    (Following-more (rules_of c.args.automaton.now.grammar.now) c.name-name.result.now c.args.place.now.state c.args.conflict.index (take i items) item _ _ _ _ _ _ c.in_ok-follow.ensures.gains c.in_ok-follow.ensures.visits c.in_ok-follow.ensures.columns c.in_ok-follow.ensures.in_range c.loop-item.invariant)

pub returns-clause-in_range : goal.returns-clause-in_range
returns-clause-in_range g c = λ r. c.loop-item.invariant.in_range (c.in_ok-add_end.ensures.in_range r)

pub returns-clause-gains : goal.returns-clause-gains
returns-clause-gains g c =
    let states = c.args.automaton.now.states.now in
    let state = get_or states c.args.place.now.state c.index-automaton-state.result in
    let there = slice_get-get_or states c.args.place.now.state c.index-automaton-state.result c.requires.listed in
    let items : List (Dotted _) = c.deref-item-items.result.now in
    let all : take c.loop-item.item-index items ≡ state.items.vec.items = take_all c.loop-item.item-index items c.loop-item-test.false ∙ c.deref-item-items.ensures.value in
    Unepsilon-gains c.args.automaton.now c.args.place.now state there c.requires.begun c.args.conflict.index c.name-name.result.now c.name-name.ensures _ c.add_end.new.table _ _ _ c.in_ok-add_end.ensures.gains
    (subst (λ (xs : List (Dotted _)). IsFollowing (rules_of c.args.automaton.now.grammar.now) c.name-name.result.now c.args.place.now.state c.args.conflict.index xs c.add_end.new.table c.loop-item.table c.args.walk.now c.loop-item.walk) all c.loop-item.invariant)

pub returns-clause-visits : goal.returns-clause-visits
returns-clause-visits g c =
    let states = c.args.automaton.now.states.now in
    let state = get_or states c.args.place.now.state c.index-automaton-state.result in
    let there = slice_get-get_or states c.args.place.now.state c.index-automaton-state.result c.requires.listed in
    let items : List (Dotted _) = c.deref-item-items.result.now in
    let all : take c.loop-item.item-index items ≡ state.items.vec.items = take_all c.loop-item.item-index items c.loop-item-test.false ∙ c.deref-item-items.ensures.value in
    Unepsilon-visits c.args.automaton.now c.args.place.now state there c.requires.begun c.args.conflict.index c.name-name.result.now c.name-name.ensures _ c.add_end.new.table _ _ _ c.in_ok-add_end.ensures.gains
    (subst (λ (xs : List (Dotted _)). IsFollowing (rules_of c.args.automaton.now.grammar.now) c.name-name.result.now c.args.place.now.state c.args.conflict.index xs c.add_end.new.table c.loop-item.table c.args.walk.now c.loop-item.walk) all c.loop-item.invariant)

pub returns-in_err-add_end-clause-part : goal.returns-in_err-add_end-clause-part
returns-in_err-add_end-clause-part g c = on_err _ (GainsSome-same c.args.conflict.index (GivesCell (rules_of c.args.automaton.now.grammar.now) c.args.automaton.now.start.now (places_in c.args.automaton.now.states.now) c.args.place.now) (GivesBit (rules_of c.args.automaton.now.grammar.now) c.args.automaton.now.start.now (places_in c.args.automaton.now.states.now) c.args.place.now) (GivesSuccessor (rules_of c.args.automaton.now.grammar.now) c.args.automaton.now.start.now (places_in c.args.automaton.now.states.now) c.args.place.now) _ _ c.in_err-add_end.ensures.err)

pub returns-in_err-follow-clause-part : goal.returns-in_err-follow-clause-part
returns-in_err-follow-clause-part g c = on_err _ (let states = c.args.automaton.now.states.now in
    let state = get_or states c.args.place.now.state c.index-automaton-state.result in
    let there = slice_get-get_or states c.args.place.now.state c.index-automaton-state.result c.requires.listed in
    let items : List (Dotted _) = c.deref-item-items.result.now in
    let i = c.loop-item.item-index in
    let item = c.item-item.result in
    let at = slice_get_at items i item c.loop-item-test.true c.item-item.is in
    let this : Contains state.items.vec.items item = subst (λ (xs : List (Dotted _)). Contains xs item) c.deref-item-items.ensures.value (contains_at items item i at) in
    Unepsilon-part c.args.automaton.now c.args.place.now state there c.requires.begun c.args.conflict.index c.name-name.result.now c.name-name.ensures _ c.add_end.new.table _ _ _ _ (take i items) item
    (λ x among. subst (λ (xs : List (Dotted _)). Contains xs x) c.deref-item-items.ensures.value (Contains-take i items x among)) this c.in_ok-add_end.ensures.gains c.loop-item.invariant c.in_err-follow.ensures.part)

use Rattle.std.proofs.Common.{◌≡◌, ◌∙◌, ◌+◌, ◌++◌, ◌∷◌, [], ℕ, List, get_or, subst, sym, take}
use Rattle.std.specs.Prelude.{Contains}
use Rattle.std.proofs.lemmas.List.{take_all, take_more}
use Rattle.std.proofs.lemmas.List.Elements.{Contains-get_or}
use Rattle.lalrpop_follow_sets.specs.follow_sets.FollowWalks.{TakesBits}
use Rattle.lalrpop_follow_sets.proofs.theory.follow_sets.InitialSets.{RestAmong, among_more, among_none}
use Rattle.lalrpop_follow_sets.proofs.theory.follow_sets.FollowNodes.{items_read}
use Rattle.lalrpop_follow_sets.proofs.follow_sets.initial_sets.join_suffixes.Goals as goal

pub loop-item-init : goal.loop-item-init
loop-item-init c = among_none c.args.pass.now c.args.state c.args.sets.now.items

pub join_suffix-requires-clause-held : goal.join_suffix-requires-clause-held
join_suffix-requires-clause-held c =
    let items : List ℕ = c.deref-item-items.result.now in
    let all = items_read c.args.pass.now c.requires.pass c.args.state c.requires.listed c.index-pass-state.result items c.index-pass-state.is c.deref-item-items.ensures.value in
    subst (λ (ks : List ℕ). Contains ks (get_or items c.loop-item.item-index 0)) all (Contains-get_or items c.loop-item.item-index 0 c.loop-item-test.true)

pub join_suffix-requires-clause-counted : goal.join_suffix-requires-clause-counted
join_suffix-requires-clause-counted c = c.loop-item.invariant.counted ∙ c.requires.counted

pub loop-item-preserved : goal.loop-item-preserved
loop-item-preserved c =
    let items : List ℕ = c.deref-item-items.result.now in
    let k = c.loop-item.item-index in
    let more : take (k + 1) items ≡ take k items ++ get_or items k 0 ∷ [] = take_more items k 0 c.loop-item-test.true in
    subst (λ (done : List ℕ). TakesBits (RestAmong c.args.pass.now c.args.state done) c.args.sets.now.items c.join_suffix.new.sets.items) (sym more)
    (among_more c.args.pass.now c.args.state (take k items) (get_or items k 0) c.args.sets.now.items c.loop-item.sets.items c.join_suffix.new.sets.items c.loop-item.invariant c.in_ok-join_suffix.ensures)

pub returns : goal.returns
returns c =
    let items : List ℕ = c.deref-item-items.result.now in
    let all = take_all c.loop-item.item-index items c.loop-item-test.false ∙ items_read c.args.pass.now c.requires.pass c.args.state c.requires.listed c.index-pass-state.result items c.index-pass-state.is c.deref-item-items.ensures.value in
    subst (λ (ks : List ℕ). TakesBits (RestAmong c.args.pass.now c.args.state ks) c.args.sets.now.items c.loop-item.sets.items) all c.loop-item.invariant

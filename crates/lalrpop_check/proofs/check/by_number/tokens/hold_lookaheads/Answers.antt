use Rattle.std.proofs.Common.{◌≡◌, ◌∙◌, ℕ, List, ap, subst, arith, length, sym, ⊎_elim}
use Rattle.std.specs.Prelude.{slice_get}
use Rattle.std.proofs.lemmas.Bool.{cases_lt}
use Rattle.std.proofs.lemmas.Option.{slice_get_within}
use Rattle.lalrpop_base.specs.Words.{Bits}
use Rattle.lalrpop_check.proofs.Types.{State}
use Rattle.lalrpop_collections.proofs.theory.lists.Places.{same_some, slice_get_at}
use Rattle.lalrpop_check.specs.check.ByNumber.{HoldSets, HoldsUnion}
use Rattle.lalrpop_follow_sets.specs.follow_sets.FollowWalks.{AreUnions, entries_at}
use Rattle.lalrpop_construction.specs.declared.construction.numbered_state.NumberedState.{NumberedState}
use Rattle.lalrpop_check.proofs.theory.check.NumberedSteps.{Union-held}
use Rattle.lalrpop_check.proofs.check.by_number.tokens.hold_lookaheads.Goals as goal

pub unions-requires-clause-within : goal.unions-requires-clause-within
unions-requires-clause-within c k m there = c.requires.within c.loop-place.place k m there

pub hold_sets-requires : goal.hold_sets-requires
hold_sets-requires c =
    let place = c.loop-place.place in
    let old : State Bits = c.index-states-place.result in
    let state : NumberedState = c.index-numbered-place.result in
    let counted = c.requires.counted in
    let l = c.loop-place-test.true in
    let at = slice_get_at c.args.states.now place old l c.index-states-place.is in
    let at_list = slice_get_at c.args.numbered.now place state (omega (arith, counted, l)) c.index-numbered-place.is in
    let same = c.requires.reduced place old state at at_list in
    let sets : List Bits = c.in_ok-sets.sets.items in
    let unions : length sets ≡ length state.reductions.items = subst (λ (p : NumberedState). length sets ≡ length p.reductions.items) (sym c.index-numbered-place.is) (subst (λ (ks : List ℕ). length sets ≡ length ks) c.deref.ensures.value c.in_ok-sets.ensures.counted) in
    let total : length sets ≡ length old.reductions.items = unions ∙ same in
    rw c.deref-in-loop-place-2.ensures.value (rw c.deref-in-loop-place.ensures.value total)

pub loop-place-preserved : goal.loop-place-preserved
loop-place-preserved c s j k old state r less at at_list at_r at_k =
    ⊎_elim (λ before. c.loop-place.invariant s j k old state r before at at_list at_r at_k)
    (λ last.
    let place = c.loop-place.place in
    let follow : List Bits = c.args.found.now.follow.items in
    let entries : List (ℕ × ℕ) = entries_at c.args.found.now.lookback.items place in
    let sets : List Bits = c.in_ok-sets.sets.items in
    let same : place ≡ s = omega (arith, less, last) in
    let this : State Bits = c.index-states-place.result in
    let listed : NumberedState = c.index-numbered-place.result in
    let there = slice_get_at c.args.states.now place this c.loop-place-test.true c.index-states-place.is in
    let is : this ≡ old = same_some this old (sym there ∙ ap (slice_get c.args.states.now) same ∙ at) in
    let within = slice_get_within c.args.numbered.now s state at_list in
    let read = slice_get_at c.args.numbered.now place listed (omega (arith, within, same)) c.index-numbered-place.is in
    let is_listed : listed ≡ state = same_some listed state (sym read ∙ ap (slice_get c.args.numbered.now) same ∙ at_list) in
    let unions : AreUnions follow entries listed.reductions.items sets = subst (λ (p : NumberedState). AreUnions follow entries p.reductions.items sets) (sym c.index-numbered-place.is) (subst (λ (ks : List ℕ). AreUnions follow entries ks sets) c.deref.ensures.value c.in_ok-sets.ensures) in
    let holds : HoldSets this.reductions.items sets = rw c.deref-in-loop-place.ensures.value at (rw c.deref-in-loop-place-2.ensures.value at (c.in_ok-hold_sets.ensures c.if-not-branch.false)) in
    let of_state = subst (λ (p : NumberedState). AreUnions follow entries p.reductions.items sets) is_listed unions in
    let of_old = subst (λ (p : State Bits). HoldSets p.reductions.items sets) is holds in
    subst (λ (m : ℕ). HoldsUnion follow (entries_at c.args.found.now.lookback.items m) k r.0) same (Union-held follow entries state.reductions.items sets old.reductions.items of_state of_old j k r at_r at_k))
    (cases_lt s c.loop-place.place)

pub returns : goal.returns
returns c = λ yes s j k old state r at at_list at_r at_k. c.loop-place.invariant s j k old state r (let within = slice_get_within c.args.states.now s old at in let end = c.loop-place-test.false in omega arith) at at_list at_r at_k

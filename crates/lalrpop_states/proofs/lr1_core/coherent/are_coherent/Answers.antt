use Rattle.std.proofs.Common.{◌≡◌, ◌<◌, ℕ, length, refl, sym, subst, arith, ⊎_elim}
use Rattle.std.proofs.lemmas.Option.{slice_get_within}
use Rattle.std.proofs.lemmas.Bool.{cases_lt}
use Rattle.lalrpop_states.proofs.Types.{State}
use Rattle.lalrpop_states.specs.Words.{IsCoherentState}
use Rattle.lalrpop_collections.proofs.theory.lists.EachLemmas.{same_at}
use Rattle.std.specs.Prelude.{slice_get, Some}
use Rattle.lalrpop_states.proofs.lr1_core.coherent.are_coherent.Goals as goal

pub loop-place-preserved : goal.loop-place-preserved
loop-place-preserved g c k state less at =
    ⊎_elim (λ before. c.loop-place.invariant k state before at)
    (λ here.
    let place : c.loop-place.place ≡ k = omega arith in
    let there : slice_get c.args.states.now c.loop-place.place ≡ Some state = rw place at in
    let same = same_at c.args.states.now c.loop-place.place c.index-states-place.result state c.loop-place-test.true c.index-states-place.is there in
    subst (λ (s : State g.row.L.Denot). IsCoherentState c.args.states.now k s) (sym same)
    (subst (λ (n : ℕ). IsCoherentState c.args.states.now n c.index-states-place.result) place (c.if-not-is_coherent_state.ensures.0 refl)))
    (cases_lt k c.loop-place.place)

pub returns : goal.returns
returns g c = (
  λ h k state at. c.loop-place.invariant k state (let within : k < length c.args.states.now = slice_get_within c.args.states.now k state at in omega arith) at,
  λ h. refl,
)

use Rattle.std.proofs.Common.{◌≡◌, ℕ, refl, sym, ◌∙◌, ap, subst, arith, ⊎_elim}
use Rattle.std.specs.Prelude.{slice_get}
use Rattle.std.proofs.lemmas.Option.{slice_get_within}
use Rattle.std.proofs.lemmas.Bool.{cases_lt}
use Rattle.lalrpop_base.specs.Words.{Bits, EachItem, HoldsTableTokens}
use Rattle.lalrpop_check.proofs.Types.{State}
use Rattle.lalrpop_collections.proofs.theory.lists.Places.{slice_get_at, same_some}
use Rattle.lalrpop_check.proofs.check.carrying.all_have_carried.Goals as goal

pub returns-then-not-branch : goal.returns-then-not-branch
returns-then-not-branch c = (
  λ h. cc,
  λ all.
      let there = slice_get_at c.args.states.now c.loop-number.number c.index-states-number.result c.loop-number-test.true c.index-states-number.is in
      let yes = c.in_ok-have_carried.ensures.1 (rw c.deref.ensures.value (all c.loop-number.number c.index-states-number.result there)) in
      cc,
)

pub loop-number-preserved : goal.loop-number-preserved
loop-number-preserved c n s less at =
    ⊎_elim (λ before. c.loop-number.invariant n s before at)
    (λ last.
    let same : c.loop-number.number ≡ n = omega arith in
    let there = slice_get_at c.args.states.now c.loop-number.number c.index-states-number.result c.loop-number-test.true c.index-states-number.is in
    let state : c.index-states-number.result ≡ s = same_some c.index-states-number.result s (sym there ∙ ap (slice_get c.args.states.now) same ∙ at) in
    subst (λ (t : State Bits). EachItem (HoldsTableTokens c.args.table.now.entries n) t.reductions.items) state
    (subst (λ (k : ℕ). EachItem (HoldsTableTokens c.args.table.now.entries k) c.index-states-number.result.reductions.items) same (rw (← c.deref.ensures.value) (c.in_ok-have_carried.ensures.0 c.if-not-branch.false))))
    (cases_lt n c.loop-number.number)

pub returns : goal.returns
returns c = (
  λ h n s at. c.loop-number.invariant n s (let within = slice_get_within c.args.states.now n s at in let end = c.loop-number-test.false in omega arith) at,
  λ all. refl,
)

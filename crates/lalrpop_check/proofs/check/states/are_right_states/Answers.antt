use Rattle.std.proofs.Common.{◌≡◌, ◌<◌, ℕ, length, refl, sym, ◌∙◌, ap, subst, arith, ⊎_elim}
use Rattle.std.specs.Prelude.{slice_get}
use Rattle.std.specs.BTreeSet.{BTreeSet}
use Rattle.std.proofs.lemmas.Option.{slice_get_within}
use Rattle.std.proofs.lemmas.Bool.{cases_lt}
use Rattle.lalrpop_base.specs.Words.{Bits, Dotted, IsRightState}
use Rattle.lalrpop_check.proofs.Types.{Nil, State}
use Rattle.lalrpop_collections.proofs.theory.lists.Places.{slice_get_at, same_some}
use Rattle.lalrpop_check.proofs.check.states.are_right_states.Goals as goal

pub returns-then-not-branch : goal.returns-then-not-branch
returns-then-not-branch c = (
  λ h. cc,
  λ all.
      let there = slice_get_at c.args.states.now c.loop-number.number c.index-states-number.result c.loop-number-test.true c.index-states-number.is in
      let counted = c.requires.counted in
      let test = c.loop-number-test.true in
      let within : c.loop-number.number < length c.args.listed.now = omega arith in
      let here = slice_get_at c.args.listed.now c.loop-number.number c.index-listed-number.result within c.index-listed-number.is in
      let yes = c.in_ok-is_right_state.ensures.1 (all c.loop-number.number c.index-states-number.result c.index-listed-number.result there here) in
      cc,
)

pub loop-number-preserved : goal.loop-number-preserved
loop-number-preserved c n s here less at at_here =
    ⊎_elim (λ before. c.loop-number.invariant n s here before at at_here)
    (λ last.
    let same : c.loop-number.number ≡ n = omega arith in
    let counted = c.requires.counted in
    let test = c.loop-number-test.true in
    let within : c.loop-number.number < length c.args.listed.now = omega arith in
    let there = slice_get_at c.args.states.now c.loop-number.number c.index-states-number.result c.loop-number-test.true c.index-states-number.is in
    let set = slice_get_at c.args.listed.now c.loop-number.number c.index-listed-number.result within c.index-listed-number.is in
    let state : c.index-states-number.result ≡ s = same_some c.index-states-number.result s (sym there ∙ ap (slice_get c.args.states.now) same ∙ at) in
    let sets : c.index-listed-number.result ≡ here = same_some c.index-listed-number.result here (sym set ∙ ap (slice_get c.args.listed.now) same ∙ at_here) in
    subst (λ (t : State Bits). IsRightState c.args.grammar.now c.args.start.now c.args.listed.now c.args.targets.now.keys n here.keys t) state
    (subst (λ (t : BTreeSet (Dotted Nil)). IsRightState c.args.grammar.now c.args.start.now c.args.listed.now c.args.targets.now.keys n t.keys c.index-states-number.result) sets
    (subst (λ (k : ℕ). IsRightState c.args.grammar.now c.args.start.now c.args.listed.now c.args.targets.now.keys k c.index-listed-number.result.keys c.index-states-number.result) same (c.in_ok-is_right_state.ensures.0 c.if-not-branch.false))))
    (cases_lt n c.loop-number.number)

pub returns : goal.returns
returns c = (
  λ h n s here at at_here. c.loop-number.invariant n s here (let within = slice_get_within c.args.states.now n s at in let end = c.loop-number-test.false in omega arith) at at_here,
  λ all. refl,
)

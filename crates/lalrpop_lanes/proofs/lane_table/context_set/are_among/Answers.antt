use Rattle.std.proofs.Common.{◌≡◌, ◌∙◌, ℕ, refl, sym, subst, ap, arith, inl, inr}
use mathlib.Core.Bool.{true≢false}
use Rattle.std.specs.Borrow.{Bor}
use Rattle.std.specs.Prelude.{slice_get}
use Rattle.std.proofs.lemmas.Bool.{cases_lt}
use Rattle.std.proofs.lemmas.Option.{slice_get_within}
use Rattle.lalrpop_base.specs.Words.{Bits}
use Rattle.lalrpop_lanes.specs.Words.{IsReductionAt}
use Rattle.lalrpop_lanes.proofs.Types.{Production}
use Rattle.lalrpop_collections.proofs.theory.lists.Places.{same_some, slice_get_at}
use Rattle.lalrpop_lanes.proofs.lane_table.context_set.are_among.Goals as goal

pub loop-tokens-preserved : goal.loop-tokens-preserved
loop-tokens-preserved c = λ k r l at. elim (cases_lt k c.loop-tokens._tokens-index) [
  | inl less ↦ c.loop-tokens.invariant k r less at
  | inr most ↦
      let item = slice_get_at c.args.reductions.now c.loop-tokens._tokens-index c.loop-tokens-item.result c.loop-tokens-test.true c.loop-tokens-item.is in
      let here : k ≡ c.loop-tokens._tokens-index = omega arith in
      let same : c.loop-tokens-item.result ≡ r = same_some c.loop-tokens-item.result r (sym item ∙ ap (slice_get c.args.reductions.now) (sym here) ∙ at) in
      subst (λ (q : Bits × Bor Production). (place : ℕ) × IsReductionAt c.args.actions.now.keys place q.1.now) same (c.has_reduction.ensures.0 c.if-not-has_reduction.false)
]

pub returns-then-not-has_reduction : goal.returns-then-not-has_reduction
returns-then-not-has_reduction c = (
  λ e. absurd (true≢false (sym e)),
  λ all.
      let item = slice_get_at c.args.reductions.now c.loop-tokens._tokens-index c.loop-tokens-item.result c.loop-tokens-test.true c.loop-tokens-item.is in
      absurd (true≢false (sym (c.has_reduction.ensures.1 (all c.loop-tokens._tokens-index c.loop-tokens-item.result item)) ∙ c.if-not-has_reduction.true)),
)

pub returns : goal.returns
returns c = (λ _ k r at. c.loop-tokens.invariant k r (let l = slice_get_within c.args.reductions.now k r at in let m = c.loop-tokens-test.false in omega arith) at, λ _. refl)

use Rattle.std.proofs.Common.{◌<◌, length, refl, arith}
use Rattle.std.proofs.lemmas.Option.{slice_get_read}
use Rattle.lalrpop_states.proofs.theory.states.DotLemmas.{agree_more, agree_of_dots, dots_agree}
use Rattle.lalrpop_states.proofs.lr1_core.collapsible.have_same_dots.Goals as goal

pub returns-then-not-is_same_dot : goal.returns-then-not-is_same_dot
returns-then-not-is_same_dot g c =
    let within_a : c.loop-place.place < length c.args.a.now = omega arith in
    let within_b : c.loop-place.place < length c.args.b.now = omega arith in (
      λ h. cc,
      λ same. c.if-not-is_same_dot.ensures.1 (agree_of_dots c.args.a.now c.args.b.now same c.loop-place.place c.index-a-place.result c.index-b-place.result
          (slice_get_read _ _ _ _ refl within_a c.index-a-place.is) (slice_get_read _ _ _ _ refl within_b c.index-b-place.is)),
    )

pub loop-place-preserved : goal.loop-place-preserved
loop-place-preserved g c =
    let within_a : c.loop-place.place < length c.args.a.now = omega arith in
    let within_b : c.loop-place.place < length c.args.b.now = omega arith in
    agree_more _ _ _ _ _ within_a c.index-a-place.is within_b c.index-b-place.is (c.if-not-is_same_dot.ensures.0 refl) c.loop-place.invariant

pub returns : goal.returns
returns g c = (
  λ h. dots_agree c.args.a.now c.args.b.now c.if-a-b.false (λ k x y less. c.loop-place.invariant k x y (omega arith)),
  λ h. refl,
)

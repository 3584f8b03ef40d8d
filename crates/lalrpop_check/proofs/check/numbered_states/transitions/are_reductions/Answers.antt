use Rattle.std.proofs.Common.{◌≡◌, ◌∙◌, ◌<◌, ℕ, ap, subst, arith, length, get_or, refl, sym, Some, ⊎_elim}
use Rattle.std.specs.Prelude.{slice_get}
use Rattle.std.specs.Borrow.{Bor}
use Rattle.std.proofs.lemmas.Bool.{cases_lt}
use Rattle.std.proofs.lemmas.List.{get_or_default}
use Rattle.std.proofs.lemmas.Option.{slice_get_within}
use Rattle.lalrpop_base.specs.Words.{Bits, with_dot}
use Rattle.lalrpop_check.proofs.Types.{Production}
use Rattle.lalrpop_collections.proofs.theory.lists.Places.{same_some, slice_get_at}
use Rattle.lalrpop_check.proofs.check.numbered_states.transitions.are_reductions.Goals as goal

pub loop-place-preserved : goal.loop-place-preserved
loop-place-preserved c j k r less at_r at_k =
    ⊎_elim (λ before. c.loop-place.invariant j k r before at_r at_k)
    (λ last.
    let same : c.loop-place.place ≡ j = omega (arith, less, last) in
    let there = slice_get_at c.args.reductions.now c.loop-place.place c.index-reductions-place.result c.loop-place-test.true c.index-reductions-place.is in
    let is : c.index-reductions-place.result ≡ r = same_some c.index-reductions-place.result r (sym there ∙ ap (slice_get c.args.reductions.now) same ∙ at_r) in
    let within = slice_get_within c.args.expected.now j k at_k in
    let met = get_or c.args.expected.now c.loop-place.place 0 in
    let room : c.loop-place.place < length c.args.expected.now = omega (arith, within, same) in
    let number = slice_get_at c.args.expected.now c.loop-place.place met room (get_or_default c.args.expected.now c.loop-place.place 0 met room) in
    let is_number : met ≡ k = same_some met k (sym number ∙ ap (slice_get c.args.expected.now) same ∙ at_k) in
    let found = c.if-not-is_number_of.ensures refl ∙ ap (λ (d : ℕ). Some (with_dot c.index-reductions-place.result.1.now d)) c.len-dot.ensures in
    subst (λ (m : ℕ). slice_get c.args.numbers.now.items.items m ≡ Some (with_dot r.1.now (length r.1.now.symbols))) is_number
    (subst (λ (q : Bits × Bor Production). slice_get c.args.numbers.now.items.items met ≡ Some (with_dot q.1.now (length q.1.now.symbols))) is found))
    (cases_lt j c.loop-place.place)

pub returns : goal.returns
returns c = λ h. record {
  counted = omega arith;
  each = λ j k r at_r at_k. c.loop-place.invariant j k r (let within = slice_get_within c.args.reductions.now j r at_r in let end = c.loop-place-test.false in omega arith) at_r at_k;
}

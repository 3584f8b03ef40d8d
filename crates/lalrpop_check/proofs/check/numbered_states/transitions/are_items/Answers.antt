use Rattle.std.proofs.Common.{◌≡◌, ◌∙◌, ◌<◌, ℕ, ap, subst, arith, length, get_or, refl, sym, Some, ⊎_elim}
use Rattle.std.specs.Prelude.{slice_get}
use Rattle.std.proofs.lemmas.Bool.{cases_lt}
use Rattle.std.proofs.lemmas.List.{get_or_default}
use Rattle.std.proofs.lemmas.Option.{slice_get_within}
use Rattle.lalrpop_base.specs.Words.{Bits, Dotted, with_dot}
use Rattle.lalrpop_collections.proofs.theory.lists.Places.{same_some, slice_get_at}
use Rattle.lalrpop_check.proofs.check.numbered_states.transitions.are_items.Goals as goal

pub loop-place-preserved : goal.loop-place-preserved
loop-place-preserved c j k item less at_item at_k =
    ⊎_elim (λ before. c.loop-place.invariant j k item before at_item at_k)
    (λ last.
    let same : c.loop-place.place ≡ j = omega (arith, less, last) in
    let there = slice_get_at c.args.items.now c.loop-place.place c.index-items-place.result c.loop-place-test.true c.index-items-place.is in
    let is : c.index-items-place.result ≡ item = same_some c.index-items-place.result item (sym there ∙ ap (slice_get c.args.items.now) same ∙ at_item) in
    let within = slice_get_within c.args.expected.now j k at_k in
    let met = get_or c.args.expected.now c.loop-place.place 0 in
    let room : c.loop-place.place < length c.args.expected.now = omega (arith, within, same) in
    let number = slice_get_at c.args.expected.now c.loop-place.place met room (get_or_default c.args.expected.now c.loop-place.place 0 met room) in
    let is_number : met ≡ k = same_some met k (sym number ∙ ap (slice_get c.args.expected.now) same ∙ at_k) in
    subst (λ (m : ℕ). slice_get c.args.numbers.now.items.items m ≡ Some (with_dot item.production item.index)) is_number
    (subst (λ (i : Dotted Bits). slice_get c.args.numbers.now.items.items met ≡ Some (with_dot i.production i.index)) is (c.if-not-is_number_of.ensures refl ∙ ap (λ (i : Dotted Bits). Some (with_dot i.production i.index)) c.item.view_is)))
    (cases_lt j c.loop-place.place)

pub returns : goal.returns
returns c = λ h. record {
  counted = omega arith;
  each = λ j k item at_item at_k. c.loop-place.invariant j k item (let within = slice_get_within c.args.items.now j item at_item in let end = c.loop-place-test.false in omega arith) at_item at_k;
}

use Rattle.std.proofs.Common.{◌≡◌, ◌∙◌, ap, subst, arith, sym, true, ⊎_elim}
use Rattle.std.specs.Prelude.{slice_get}
use Rattle.std.specs.Borrow.{Bor}
use Rattle.std.proofs.lemmas.Bool.{cases_lt}
use Rattle.std.proofs.lemmas.Option.{slice_get_within}
use Rattle.lalrpop_base.specs.Words.{Bits, has}
use Rattle.lalrpop_check.proofs.Types.{Production}
use Rattle.lalrpop_collections.proofs.theory.lists.Places.{same_some, slice_get_at}
use Rattle.lalrpop_check.proofs.check.by_number.tokens.hold_sets.Goals as goal

pub loop-place-preserved : goal.loop-place-preserved
loop-place-preserved c j bit r set less at_r at_set h =
    ⊎_elim (λ before. c.loop-place.invariant j bit r set before at_r at_set h)
    (λ last.
    let same : c.loop-place.place ≡ j = omega (arith, less, last) in
    let there = slice_get_at c.args.reductions.now c.loop-place.place c.index-reductions-place.result c.loop-place-test.true c.index-reductions-place.is in
    let is : c.index-reductions-place.result ≡ r = same_some c.index-reductions-place.result r (sym there ∙ ap (slice_get c.args.reductions.now) same ∙ at_r) in
    let within = slice_get_within c.args.sets.now j set at_set in
    let read = slice_get_at c.args.sets.now c.loop-place.place c.index-sets-place.result (omega (arith, within, same)) c.index-sets-place.is in
    let is_set : c.index-sets-place.result ≡ set = same_some c.index-sets-place.result set (sym read ∙ ap (slice_get c.args.sets.now) same ∙ at_set) in
    let holds = c.in_ok-holds_all.ensures c.if-not-branch.false in
    subst (λ (q : Bits × Bor Production). has q.0 bit ≡ true) is (holds bit (subst (λ (s : Bits). has s bit ≡ true) (sym is_set) h)))
    (cases_lt j c.loop-place.place)

pub returns : goal.returns
returns c = λ yes j bit r set at_r at_set h. c.loop-place.invariant j bit r set (let within = slice_get_within c.args.reductions.now j r at_r in let end = c.loop-place-test.false in omega arith) at_r at_set h

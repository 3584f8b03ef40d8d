use Rattle.std.proofs.Common.{◌≡◌, ℕ, ◌+◌, ◌∷◌, [], List, length, length-append, slice_get, Some, refl, sym, ◌∙◌, ap, subst}
use Rattle.std.proofs.lemmas.Option.{slice_get_read}
use Rattle.table_numbers.specs.declared.tables.NumberedState.{NumberedState}
use Rattle.table_numbers.proofs.NumberedLemmas.{next_state}
use Rattle.table_numbers.proofs.number.number_states.Goals as goal

pub loop-place-preserved : goal.loop-place-preserved
loop-place-preserved c =
    let states = c.args.states.now in
    let list = c.loop-place.list in
    let made = c.in_ok-number_state.field-0 in
    let state = c.index-states-place.result in
    let at = slice_get_read states (length states) c.loop-place.place state refl c.loop-place-test.true c.index-states-place.is in
    let here : slice_get states (length list) ≡ Some state = subst (λ (n : ℕ). slice_get states n ≡ Some state) (sym c.loop-place.invariant.counted) at in
    record {
      counted = ap (λ (xs : List NumberedState). length xs) c.in_ok-push.ensures.ok ∙ length-append list (made ∷ []) ∙ ap (λ (n : ℕ). n + 1) c.loop-place.invariant.counted;
      each = λ n other s at_n at_s.
          next_state c.args.names.now c.loop-place.sets c.number_state.new.sets c.in_ok-number_state.ensures.kept states list state made here c.in_ok-number_state.ensures.numbered c.loop-place.invariant.each n other s at_n
          (ap (λ (xs : List NumberedState). slice_get xs n) (sym c.in_ok-push.ensures.ok) ∙ at_s);
    }

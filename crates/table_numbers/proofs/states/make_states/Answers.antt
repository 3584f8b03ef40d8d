use Rattle.std.proofs.Common.{◌≡◌, ℕ, ◌+◌, ◌∷◌, [], List, length, length-append, slice_get, Some, refl, sym, ◌∙◌, ap, subst, arith}
use Rattle.std.proofs.lemmas.Option.{slice_get_read}
use Rattle.lalrpop_base.specs.Words.{Bits}
use Rattle.lalrpop_states.specs.declared.lr1_core.state.State.{State}
use Rattle.table_numbers.specs.Items.{AreItemsOf, list_at}
use Rattle.table_numbers.specs.Made.{IsMade, borrowed}
use Rattle.table_numbers.specs.declared.tables.NumberedState.{NumberedState}
use Rattle.table_numbers.proofs.ItemLemmas.{next_has}
use Rattle.table_numbers.proofs.MadeLemmas.{next_made}
use Rattle.table_numbers.proofs.states.make_states.Goals as goal

pub loop-place-preserved : goal.loop-place-preserved
loop-place-preserved c =
    let lists = c.args.names.now in
    let listed = c.args.tables.now.sets in
    let ps = borrowed c.args.productions.now in
    let sets = c.args.sets.now in
    let lists_of_items = c.args.lists.now in
    let list = c.as_slice-list.result.now in
    let states = c.loop-place.states.items in
    let made = c.in_ok-make_state.field-0 in
    let first = c.index-list-place.result in
    let at = slice_get_read list (length list) c.loop-place.place first refl c.loop-place-test.true c.index-list-place.is in
    let here : slice_get list (length states) ≡ Some first = subst (λ (n : ℕ). slice_get list n ≡ Some first) (sym c.loop-place.invariant.counted) at in
    let there : slice_get c.args.tables.now.states (length states) ≡ Some first = subst (λ (xs : List NumberedState). slice_get xs (length states) ≡ Some first) c.as_slice-list.ensures here in
    record {
      counted = ap (λ (xs : List (State Bits)). length xs) c.in_ok-push.ensures.items ∙ length-append states (made ∷ []) ∙ ap (λ (n : ℕ). n + 1) c.loop-place.invariant.counted;
      each = λ same_productions same_sets n state s at_n at_s.
          next_made (IsMade lists listed) c.args.tables.now.states states made first there (c.in_ok-make_state.ensures.made listed same_productions same_sets) (c.loop-place.invariant.each same_productions same_sets) n state s
          (ap (λ (xs : List (State Bits)). slice_get xs n) (sym c.in_ok-push.ensures.items) ∙ at_n) at_s;
      items = λ n state at_n.
          next_has (λ (m : ℕ) (s : State Bits). AreItemsOf ps sets (list_at lists_of_items m) s) states made (subst (λ (m : ℕ). AreItemsOf ps sets (list_at lists_of_items m) made) (sym c.loop-place.invariant.counted) c.in_ok-make_state.ensures.items)
          c.loop-place.invariant.items n state (ap (λ (xs : List (State Bits)). slice_get xs n) (sym c.in_ok-push.ensures.items) ∙ at_n);
    }

pub returns-clause-made : goal.returns-clause-made
returns-clause-made c same_productions same_sets =
    let few = c.loop-place.auto.place-end in
    let many = c.loop-place-test.false in
    let all : c.loop-place.place ≡ length c.as_slice-list.result.now = omega (arith, few, many) in
    record {
      counted = c.loop-place.invariant.counted ∙ all ∙ ap (λ (xs : List NumberedState). length xs) c.as_slice-list.ensures;
      each = c.loop-place.invariant.each same_productions same_sets;
    }

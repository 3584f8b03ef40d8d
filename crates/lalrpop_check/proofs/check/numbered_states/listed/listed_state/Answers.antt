use Rattle.std.proofs.Common.{◌≡◌, ◌∙◌, ◌<◌, ℕ, List, length, map, subst, sym}
use Rattle.std.specs.Prelude.{Contains}
use Rattle.std.proofs.lemmas.Result.{IfOk-weaker}
use Rattle.lalrpop_base.specs.Words.{AllDiffer, items_by}
use Rattle.lalrpop_construction.specs.states.NumberedStates.{AreItemsAt, item_number}
use Rattle.lalrpop_check.proofs.theory.check.NumberedSteps.{Listed-closure, if_some}
use Rattle.lalrpop_construction.proofs.theory.states.ItemNumbers.{numbers_differ, numbers_known}
use Rattle.lalrpop_check.proofs.check.numbered_states.listed.listed_state.Goals as goal

pub symbols_behind-requires : goal.symbols_behind-requires
symbols_behind-requires c =
    let made : c.list_numbers.new.numbers.items ≡ map item_number c.in_ok-list.list.items = rw c.deref.ensures.value at c.in_ok-list_numbers.ensures in
    subst (λ (ks : List ℕ). (k : ℕ) → Contains ks k → k < length c.args.numbers.now.items.items) (sym (c.deref-2.ensures.value ∙ made)) (numbers_known c.args.numbers.now.items.items c.in_ok-list.list.items c.in_ok-list.ensures.known)

pub state_over-requires-clause-known : goal.state_over-requires-clause-known
state_over-requires-clause-known c =
    let made : c.list_numbers.new.numbers.items ≡ map item_number c.in_ok-list.list.items = rw c.deref.ensures.value at c.in_ok-list_numbers.ensures in
    subst (λ (ks : List ℕ). (k : ℕ) → Contains ks k → k < length c.args.numbers.now.items.items) (sym made) (numbers_known c.args.numbers.now.items.items c.in_ok-list.list.items c.in_ok-list.ensures.known)

pub state_over-requires-clause-differ : goal.state_over-requires-clause-differ
state_over-requires-clause-differ c =
    let made : c.list_numbers.new.numbers.items ≡ map item_number c.in_ok-list.list.items = rw c.deref.ensures.value at c.in_ok-list_numbers.ensures in
    subst AllDiffer (sym made) (numbers_differ c.args.numbers.now.items.items c.in_ok-list.list.items c.in_ok-list.ensures.closed.are_items.differ)

pub returns-clause-closed : goal.returns-clause-closed
returns-clause-closed c =
    let known = c.args.numbers.now.items.items in
    let list = c.in_ok-list.list.items in
    let made : c.list_numbers.new.numbers.items ≡ map item_number list = rw c.deref.ensures.value at c.in_ok-list_numbers.ensures in
    IfOk-weaker c.state_over.result _ _ (λ answer told. if_some answer _ _ (λ new over.
    Listed-closure c.args.lr.now.construction.rules known (items_by known c.args.kernel.now) list c.args.state.now c.in_ok-list.ensures.known c.in_ok-list.ensures.closed.exact
    (subst (λ (ks : List ℕ). AreItemsAt known ks c.args.state.now.items.vec.items) made over.listed)) told) c.state_over.ensures

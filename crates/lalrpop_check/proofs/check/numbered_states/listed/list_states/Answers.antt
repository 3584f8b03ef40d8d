use Rattle.std.proofs.Common.{◌≡◌, ℕ, List, subst, set, refl, Option, Some, rules}
use Rattle.lalrpop_collections.proofs.theory.lists.Places.{slice_get_at}
use Rattle.std.specs.Prelude.{IfSome, slice_get}
use Rattle.lalrpop_base.specs.Words.{Bits, items_by}
use Rattle.lalrpop_check.proofs.Types.{State}
use Rattle.lalrpop_check.specs.check.ByNumber.{IsListedOver, IsListedState, ListsClosure}
use Rattle.lalrpop_construction.specs.declared.construction.numbered_state.NumberedState.{NumberedState}
use Rattle.lalrpop_check.proofs.theory.check.NumberedSteps.{Places-more}
use Rattle.lalrpop_check.proofs.check.numbered_states.listed.list_states.Goals as goal

pub loop-count-preserved : goal.loop-count-preserved
loop-count-preserved c =
    let n = c.args.numbers.now in
    let g = c.args.lr.now.construction.rules in
    let start = c.args.lr.now.construction.start in
    let states : List (State Bits) = c.args.states.now in
    let list : List (Option NumberedState) = c.loop-count.list.items in
    let place = c.in-Some.place in
    let old : State Bits = c.index-states-place.result in
    let new : NumberedState = c.in-Some-2.new in
    let at : slice_get states place ≡ Some old = slice_get_at states place old (search rules) c.index-states-place.is in
    let is : IsListedState g start n place old new = record {
      kernel = items_by n.items.items c.in-Some-kernel_of.kernel.now;
      is = c.in-Some-kernel_of.ensures.is;
      closed = subst (λ (o : Option NumberedState). IfSome o (λ (s : NumberedState). ListsClosure g (items_by n.items.items c.in-Some-kernel_of.kernel.now) old)) c.in-Some-2.is c.in_ok-new.ensures.closed;
      over = subst (λ (o : Option NumberedState). IfSome o (λ (s : NumberedState). IsListedOver n s.items.items old s)) c.in-Some-2.is c.in_ok-new.ensures.listed;
    } in
    Places-more g start n states list (set list place (Some new)) place old new at refl c.loop-count.invariant is

use Rattle.std.proofs.Common.{◌≡◌, ◌∙◌, ◌⊎◌, ℕ, Bool, subst, sym, length, List, [], Some, true, ⊎_elim, ap, arith}
use Rattle.lalrpop_collections.proofs.theory.lists.Places.{slice_get_at}
use Rattle.std.specs.Prelude.{slice_get}
use Rattle.std.specs.List.{Contains}
use Rattle.lalrpop_check.specs.check.ByNumber.{IsReachedByNumber, MarksTargets, at_first}
use Rattle.lalrpop_construction.specs.declared.construction.numbered_state.NumberedState.{NumberedState}
use Rattle.lalrpop_check.proofs.theory.check.NumberedSteps.{Marks-counted, Marks-none, Reached-more}
use Rattle.lalrpop_check.proofs.check.by_number.reached.are_reached.Goals as goal

pub loop-count-init : goal.loop-count-init
loop-count-init c =
    let none = c.in_ok-marks.ensures.items_if_clones_equal (λ y e. e) in
    let states : List NumberedState = c.args.states.now in
    let first = c.in_ok-mark_target.ensures in
    record {
      counted = first.counted ∙ Marks-counted c.in_ok-marks.marks.items (length states) none;
      marked = λ m at. ⊎_elim (λ was. Marks-none states c.in_ok-marks.marks.items (length states) none m was) (λ e. subst (IsReachedByNumber states) (sym e) at_first) (first.from m at);
      found = first.marked (λ m met. let none : Contains [] m = subst (λ (list : List ℕ). Contains list m) c.in_ok-found.ensures.items met in let l = none.1 in absurd (omega (arith, l)));
    }

pub loop-count-preserved : goal.loop-count-preserved
loop-count-preserved c =
    let states : List NumberedState = c.args.states.now in
    let before = c.loop-count.invariant in
    let place = c.index-place.result.now in
    let state : NumberedState = c.index-states-place.result in
    let old : List Bool = c.loop-count.marks.items in
    let new : List Bool = c.mark_targets.new.marks.items in
    let found : List ℕ = c.loop-count.found.items in
    let more : List ℕ = c.mark_targets.new.found.items in
    let targets : MarksTargets state.edges.items old found new more = subst (λ (st : NumberedState). MarksTargets st.edges.items old found new more) (sym c.index-states-place.is) (subst (λ (es : List (ℕ × ℕ)). MarksTargets es old found new more) c.deref.ensures.value c.in_ok-mark_targets.ensures) in
    let at : slice_get states place ≡ Some state = slice_get_at states place state (let big = c.if-place-states.false in omega (arith, big)) c.index-states-place.is in
    let here : IsReachedByNumber states place = before.marked place (before.found place (c.loop-count.count, (let small = c.if-count-len.false in let n = c.len.ensures in omega (arith, small, n)), sym c.index-place.ensures)) in
    record {
      counted = targets.counted ∙ before.counted;
      marked = Reached-more states place state old new found more at here before.marked targets;
      found = targets.marked before.found;
    }

pub returns : goal.returns
returns c = λ yes s less.
    let before = c.loop-count.invariant in
    let counted = before.counted in
    let value : c.deref-2.result.now ≡ c.loop-count.marks.items = c.deref-2.ensures.value in
    let long : length c.deref-2.result.now ≡ length c.loop-count.marks.items = ap length value in
    before.marked s (subst (λ (bs : List Bool). slice_get bs s ≡ Some true) value (c.all_marked.ensures yes s (omega (arith, less, counted, long))))

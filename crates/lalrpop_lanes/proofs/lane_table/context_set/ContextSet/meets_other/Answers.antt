use Rattle.std.proofs.Common.{◌≡◌, refl, length, List, Some, sym, ap, ◌∙◌, arith, slice_get}
use Rattle.lalrpop_base.specs.Words.{Bits, has}
use Rattle.lalrpop_lanes.proofs.theory.lanes.Contexts.{apart_more, apart_all}
use Rattle.lalrpop_collections.proofs.theory.lists.Places.{slice_get_at, same_some}
use Rattle.lalrpop_lanes.proofs.lane_table.context_set.ContextSet.meets_other.Goals as goal
use Rattle.lalrpop_lanes.proofs.lane_table.context_set.ContextSet.meets_other.Goals.{else-other-index-via-then-other-index+else-is_intersecting, else-other-index-via-else-other-index}

pub returns-then-is_intersecting-clause-yes : goal.returns-then-is_intersecting-clause-yes
returns-then-is_intersecting-clause-yes c =
    let items : c.deref-column-items.result.now ≡ c.args.self.now = c.deref-column-items.ensures.value ∙ c.self.view_is in
    let at : slice_get c.args.self.now c.loop-other.other ≡ Some c.column-item.result = ap (λ xs. slice_get xs c.loop-other.other) (sym items) ∙ slice_get_at _ _ _ c.loop-other-test.true c.column-item.is in
    let shared = c.if-is_intersecting.ensures.yes refl in
    λ _. record { other = c.loop-other.other; apart = c.if-other-index.true; bit = shared.0; there = (c.column-item.result, at, shared.1); shared = shared.2 }

pub loop-other-preserved : goal.loop-other-preserved
loop-other-preserved c =
    let items : c.deref-column-items.result.now ≡ c.args.self.now = c.deref-column-items.ensures.value ∙ c.self.view_is in
    let at : slice_get c.args.self.now c.loop-other.other ≡ Some c.column-item.result = ap (λ xs. slice_get xs c.loop-other.other) (sym items) ∙ slice_get_at _ _ _ c.loop-other-test.true c.column-item.is in
    apart_more c.args.self.now c.args.index.index c.args.tokens.now c.loop-other.other c.loop-other.invariant
    (λ ne bit h t. elim c.else-other-index.branch [
      | else-other-index-via-then-other-index+else-is_intersecting w ↦
          w.if-is_intersecting.ensures.no refl bit (ap (λ (s : Bits). has s bit) (same_some c.column-item.result h.0 (sym at ∙ h.1)) ∙ h.2) t
      | else-other-index-via-else-other-index w ↦ ne w.if-other-index.false
    ])

pub returns-clause-no : goal.returns-clause-no
returns-clause-no c =
    let items : length c.deref-column-items.result.now ≡ length c.args.self.now = ap (λ (xs : List Bits). length xs) (c.deref-column-items.ensures.value ∙ c.self.view_is) in
    λ _. apart_all c.args.self.now c.args.index.index c.args.tokens.now c.loop-other.other (omega arith) c.loop-other.invariant

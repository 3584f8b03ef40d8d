use Rattle.std.proofs.Common.{◌≡◌, length, List, Some, sym, ap, ◌∙◌, arith, slice_get, Err, rules}
use Rattle.std.proofs.lemmas.Grind.{common_steps}
use Rattle.lalrpop_base.specs.Words.{Bits}
use Rattle.lalrpop_lanes.proofs.theory.lanes.Contexts.{union_meets, union_more, union_all, union_apart}
use Rattle.lalrpop_collections.proofs.theory.lists.Places.{slice_get_at}
use Rattle.lalrpop_lanes.proofs.lane_table.context_set.ContextSet.union.Goals as goal

pub returns-in_err-insert-clause-overlapping : goal.returns-in_err-insert-clause-overlapping
returns-in_err-insert-clause-overlapping c =
    let items : c.deref-column-items.result.now ≡ c.args.second.now = c.deref-column-items.ensures.value ∙ c.second.view_is in
    let at : slice_get c.args.second.now c.loop-index.index ≡ Some c.column-item.result = ap (λ xs. slice_get xs c.loop-index.index) (sym items) ∙ slice_get_at _ _ _ c.loop-index-test.true c.column-item.is in
    let refused : c.from_residual-in_err-insert.result ≡ Err c.in_err-insert.field-0.0 = first_of (search rules, grind (arith, common_steps)) in
    rw refused (λ e. union_meets _ _ _ _ c.loop-index.invariant c.requires.counted c.column-item.result at (rw c.new.ensures.number at (c.in_err-insert.ensures.overlapping e)))

pub loop-index-preserved : goal.loop-index-preserved
loop-index-preserved c =
    let items : c.deref-column-items.result.now ≡ c.args.second.now = c.deref-column-items.ensures.value ∙ c.second.view_is in
    let at : slice_get c.args.second.now c.loop-index.index ≡ Some c.column-item.result = ap (λ xs. slice_get xs c.loop-index.index) (sym items) ∙ slice_get_at _ _ _ c.loop-index-test.true c.column-item.is in
    union_more _ _ _ _ c.loop-index.invariant c.requires.counted c.column-item.result at _
    (rw c.new.ensures.number at c.in_ok-insert.ensures.joined)
    (rw c.new.ensures.number at c.in_ok-insert.ensures.apart)

pub returns-clause-joined : goal.returns-clause-joined
returns-clause-joined c =
    let items : length c.deref-column-items.result.now ≡ length c.args.second.now = ap (λ (xs : List Bits). length xs) (c.deref-column-items.ensures.value ∙ c.second.view_is) in
    union_all _ _ _ _ c.loop-index.invariant c.requires.counted (omega arith)

pub returns-clause-apart : goal.returns-clause-apart
returns-clause-apart c =
    let items : length c.deref-column-items.result.now ≡ length c.args.second.now = ap (λ (xs : List Bits). length xs) (c.deref-column-items.ensures.value ∙ c.second.view_is) in
    union_apart _ _ _ _ c.loop-index.invariant c.requires.counted (omega arith)

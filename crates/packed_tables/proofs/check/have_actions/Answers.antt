use Rattle.std.proofs.Common.{length, below_more, refl, sym, ◌∙◌, subst, arith}
use Rattle.packed_tables.specs.Packed.{HasActions}
use Rattle.packed_tables.proofs.RowLemmas.{row_read}
use Rattle.packed_tables.proofs.check.have_actions.Goals as goal

pub loop-state-preserved : goal.loop-state-preserved
loop-state-preserved c =
    let rows = c.args.actions.now in
    let i = c.loop-state.state in
    let same = row_read rows (length rows) i c.index-actions-state.result refl c.loop-state-test.true c.index-actions-state.is ∙ sym c.deref.ensures.value in
    let own = c.has_actions.ensures c.if-not-has_actions.false in
    below_more _ _ c.loop-state.invariant (subst (HasActions c.args.packed.now i) (sym same) (subst (λ n. HasActions c.args.packed.now n c.deref.result.now) c.in-Ok.ensures.1 own))

pub returns : goal.returns
returns c = λ _ state inside. c.loop-state.invariant state (omega (arith, inside))

use Rattle.std.proofs.Common.{length, below_more, refl, sym, ◌∙◌, subst, arith}
use Rattle.packed_tables.specs.Packed.{HasGotos}
use Rattle.packed_tables.proofs.RowLemmas.{row_read}
use Rattle.packed_tables.proofs.check.have_gotos.Goals as goal

pub loop-state-preserved : goal.loop-state-preserved
loop-state-preserved c =
    let rows = c.args.gotos.now in
    let i = c.loop-state.state in
    let same = row_read rows (length rows) i c.index-gotos-state.result refl c.loop-state-test.true c.index-gotos-state.is ∙ sym c.deref.ensures.value in
    let own = c.has_gotos.ensures c.if-not-has_gotos.false in
    below_more _ _ c.loop-state.invariant (subst (HasGotos c.args.packed.now i) (sym same) (subst (λ n. HasGotos c.args.packed.now n c.deref.result.now) c.in-Ok.ensures.1 own))

pub returns : goal.returns
returns c = λ _ state inside. c.loop-state.invariant state (omega (arith, inside))

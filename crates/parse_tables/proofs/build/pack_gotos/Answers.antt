use Rattle.std.proofs.Common.{◌≡◌, ◌+◌, [], length, refl, sym, ◌∙◌, ap, subst, arith}
use Rattle.std.proofs.lemmas.Option.{slice_get_read}
use Rattle.lalrpop_base.specs.Words.{contents}
use Rattle.parse_tables.specs.Rows.{AddsRow}
use Rattle.parse_tables.specs.StateRows.{HaveGotos}
use Rattle.parse_tables.proofs.StateRows.{IsGotoOf, RightBelow, all_gotos, next_gotos}
use Rattle.parse_tables.proofs.build.pack_gotos.Goals as goal

pub loop-state-preserved : goal.loop-state-preserved
loop-state-preserved c =
    let states = c.args.states.now in
    let n = c.loop-state.state-index in
    let old = c.loop-state.packing.rows in
    let new = c.add.new.self.rows in
    let row = c.list_gotos.new.row.items in
    let adds : AddsRow old new row = subst (AddsRow old new) c.deref.ensures.value c.in_ok-add.ensures in
    let at = slice_get_read states (length states) n c.state-item.result refl c.loop-state-test.true c.state-item.is in
    record {
      within = omega (arith, c.loop-state-test.true);
      counted = adds.counted ∙ ap (λ k. k + 1) c.loop-state.invariant.counted;
      right = next_gotos c.args.nonterminals.now states old new row n c.state-item.result c.loop-state.invariant.counted adds at c.in_ok-list_gotos.ensures c.loop-state.invariant.right;
    }

pub returns : goal.returns
returns c =
    let states = c.args.states.now in
    let n = c.loop-state.state-index in
    let few = c.loop-state.invariant.within in
    let counted = c.loop-state.invariant.counted in
    let all : n ≡ length states = omega (arith, few, c.loop-state-test.false) in
    subst (HaveGotos c.args.nonterminals.now (contents [] c.args.states.now)) (sym c.into_rows.ensures)
    (all_gotos c.args.nonterminals.now states c.loop-state.packing.rows (counted ∙ all) (subst (RightBelow (length c.args.nonterminals.now) states (IsGotoOf c.args.nonterminals.now) c.loop-state.packing.rows) all c.loop-state.invariant.right))

use Rattle.std.proofs.Common.{◌≡◌, ◌+◌, length, refl, sym, ◌∙◌, ap, subst, arith}
use Rattle.std.proofs.lemmas.Option.{slice_get_read}
use Rattle.lalrpop_base.specs.Words.{contents}
use Rattle.parse_tables.specs.Rows.{AddsRow}
use Rattle.parse_tables.specs.StateRows.{HaveActions}
use Rattle.parse_tables.proofs.StateRows.{IsActionOf, RightBelow, all_actions, next_actions}
use Rattle.parse_tables.proofs.build.pack_actions.Goals as goal

pub loop-state-preserved : goal.loop-state-preserved
loop-state-preserved c =
    let states = c.args.states.now in
    let n = c.loop-state.state-index in
    let old = c.loop-state.packing.rows in
    let new = c.add.new.self.rows in
    let row = c.list_actions.new.row.items in
    let adds : AddsRow old new row = subst (AddsRow old new) c.deref.ensures.value c.in_ok-add.ensures in
    let at = slice_get_read states (length states) n c.state-item.result refl c.loop-state-test.true c.state-item.is in
    record {
      within = omega (arith, c.loop-state-test.true);
      counted = adds.counted ∙ ap (λ k. k + 1) c.loop-state.invariant.counted;
      right = next_actions c.args.terminals.now c.args.productions.now states old new row n c.state-item.result c.loop-state.invariant.counted adds at c.in_ok-list_actions.ensures c.loop-state.invariant.right;
    }

pub returns : goal.returns
returns c =
    let states = c.args.states.now in
    let n = c.loop-state.state-index in
    let few = c.loop-state.invariant.within in
    let counted = c.loop-state.invariant.counted in
    let all : n ≡ length states = omega (arith, few, c.loop-state-test.false) in
    subst (HaveActions c.args.terminals.now c.args.productions.now (contents c.args.terminals.now c.args.states.now)) (sym c.into_rows.ensures)
    (all_actions c.args.terminals.now c.args.productions.now states c.loop-state.packing.rows (counted ∙ all) (subst (RightBelow (length c.args.terminals.now + 1) states (IsActionOf c.args.terminals.now c.args.productions.now) c.loop-state.packing.rows) all c.loop-state.invariant.right))

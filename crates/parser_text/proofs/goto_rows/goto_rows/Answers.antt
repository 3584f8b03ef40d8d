use Rattle.std.proofs.Common.{ℕ, ◌+◌, ◌∷◌, [], List, length, length-append, sym, ◌∙◌, ap, subst}
use Rattle.std.specs.declared.alloc.Global.{Global}
use Rattle.std.specs.declared.vec.Vec.{Vec}
use Rattle.parser_text.specs.Rows.{HaveGotoRows, IsGotoRowOf}
use Rattle.parser_text.proofs.RowLemmas.{more_rows}
use Rattle.parser_text.proofs.goto_rows.goto_rows.Goals as goal

pub loop-state-preserved : goal.loop-state-preserved
loop-state-preserved c =
    let listed = c.args.listed.now in
    let t = c.args.table.now in
    let rows = c.loop-state.rows.items in
    let row = c.in_ok-goto_row.field-0 in
    let counted = c.loop-state.invariant.counted in
    record {
      counted = ap length c.in_ok-push.ensures.items ∙ length-append rows (row ∷ []) ∙ ap (λ n. n + 1) counted;
      each = subst (HaveGotoRows listed t) (sym {A = List (Vec ℕ Global)} c.in_ok-push.ensures.items) (more_rows (IsGotoRowOf listed t) rows row c.loop-state.invariant.each (subst (λ (k : ℕ). IsGotoRowOf listed t k row.items) (sym counted) c.in_ok-goto_row.ensures));
    }

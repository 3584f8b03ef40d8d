use Rattle.std.proofs.Common.{ℕ, ◌+◌, ◌∷◌, [], List, length, length-append, sym, ◌∙◌, ap, subst}
use Rattle.std.specs.declared.alloc.Global.{Global}
use Rattle.std.specs.declared.vec.Vec.{Vec}
use Rattle.parser_text.specs.Hidden.{hidden_now}
use Rattle.parser_text.specs.Rows.{HaveActionRows, IsActionRowOf}
use Rattle.parser_text.proofs.RowLemmas.{more_rows}
use Rattle.parser_text.proofs.action_rows.action_rows.Goals as goal

pub loop-state-preserved : goal.loop-state-preserved
loop-state-preserved c =
    let hidden = hidden_now c.args.hidden in
    let listed = c.args.listed.now in
    let t = c.args.table.now in
    let rows = c.loop-state.rows.items in
    let row = c.in_ok-action_row.field-0 in
    let counted = c.loop-state.invariant.counted in
    record {
      counted = ap length c.in_ok-push.ensures.items ∙ length-append rows (row ∷ []) ∙ ap (λ n. n + 1) counted;
      each = subst (HaveActionRows hidden listed t) (sym {A = List (Vec ℕ Global)} c.in_ok-push.ensures.items) (more_rows (IsActionRowOf hidden listed t) rows row c.loop-state.invariant.each (subst (λ (k : ℕ). IsActionRowOf hidden listed t k row.items) (sym counted) c.in_ok-action_row.ensures));
    }

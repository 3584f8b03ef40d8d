use Rattle.std.proofs.Common.{ℕ, ◌+◌, ◌<◌, ◌∷◌, [], List, length, length-append, slice_index, sym, ◌∙◌, ap, subst}
use Rattle.parser_text.specs.Hidden.{hidden_now}
use Rattle.parser_text.specs.Rows.{IsCodeOf}
use Rattle.parser_text.proofs.RowLemmas.{more_numbers}
use Rattle.parser_text.proofs.action_rows.action_row.Goals as goal

pub loop-bit-preserved : goal.loop-bit-preserved
loop-bit-preserved c =
    let hidden = hidden_now c.args.hidden in
    let listed = c.args.listed.now in
    let t = c.args.table.now in
    let state = c.args.state in
    let row = c.loop-bit.row.items in
    let code = c.in_ok-code_of.field-0 in
    let long = c.loop-bit.invariant.long in
    let Each : List ℕ → Type 0 = λ numbers. (bit : ℕ) → bit < length numbers → IsCodeOf hidden listed t state bit (slice_index numbers bit) in
    record {
      long = ap length c.in_ok-push.ensures.items ∙ length-append row (code ∷ []) ∙ ap (λ n. n + 1) long;
      each = subst Each (sym {A = List ℕ} c.in_ok-push.ensures.items) (more_numbers (IsCodeOf hidden listed t state) row code c.loop-bit.invariant.each (subst (λ (k : ℕ). IsCodeOf hidden listed t state k code) (sym long) c.in_ok-code_of.ensures));
    }

use Rattle.std.proofs.Common.{ℕ, ◌+◌, ◌<◌, ◌∷◌, [], List, length, length-append, slice_index, sym, ◌∙◌, ap, subst}
use Rattle.parser_text.specs.Rows.{IsTargetOf}
use Rattle.parser_text.proofs.RowLemmas.{more_numbers}
use Rattle.parser_text.proofs.goto_rows.goto_row.Goals as goal

pub loop-nonterminal-preserved : goal.loop-nonterminal-preserved
loop-nonterminal-preserved c =
    let listed = c.args.listed.now in
    let t = c.args.table.now in
    let state = c.args.state in
    let row = c.loop-nonterminal.row.items in
    let code = c.in_ok-target_of.field-0 in
    let long = c.loop-nonterminal.invariant.long in
    let Each : List ℕ → Type 0 = λ numbers. (nonterminal : ℕ) → nonterminal < length numbers → IsTargetOf listed t state nonterminal (slice_index numbers nonterminal) in
    record {
      long = ap length c.in_ok-push.ensures.items ∙ length-append row (code ∷ []) ∙ ap (λ n. n + 1) long;
      each = subst Each (sym {A = List ℕ} c.in_ok-push.ensures.items) (more_numbers (IsTargetOf listed t state) row code c.loop-nonterminal.invariant.each (subst (λ (k : ℕ). IsTargetOf listed t state k code) (sym long) c.in_ok-target_of.ensures));
    }

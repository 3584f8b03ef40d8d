use Rattle.std.proofs.Common.{◌∙◌, ◌++◌, ℕ, List, Option, Some, ap, append-nil, arith, sym}
use Rattle.lalrpop_collections.proofs.theory.lists.Places.{slice_get_at}
use Rattle.canonical_by_number.specs.Conflicts.{finished_if}
use Rattle.canonical_by_number.proofs.conflicts.add_if_finished.Goals as goal

pub returns-in-Some : goal.returns-in-Some
returns-in-Some c =
    let old : List (ℕ × ℕ) = c.args.finished.now.items in
    let counted = c.args.numbers.now.counted in
    let at = slice_get_at c.args.numbers.now.behind.items c.args.item c.index.result.now (omega (arith, c.requires)) c.index.ensures ∙ ap Some c.in-Some.is in
    sym (ap (λ (o : Option (Option ℕ)). old ++ finished_if o (c.args.item, c.args.tokens)) at ∙ append-nil old)

pub returns : goal.returns
returns c =
    let old : List (ℕ × ℕ) = c.args.finished.now.items in
    let counted = c.args.numbers.now.counted in
    let at = slice_get_at c.args.numbers.now.behind.items c.args.item c.index.result.now (omega (arith, c.requires)) c.index.ensures ∙ ap Some c.in_default.is in
    c.in_ok-push.ensures.items ∙ sym (ap (λ (o : Option (Option ℕ)). old ++ finished_if o (c.args.item, c.args.tokens)) at)

use Rattle.std.proofs.Common.{rules, ◌∷◌, []}
use Rattle.grammar_text.proofs.TooLong.{too_long, too_long_still}
use Rattle.grammar_text.proofs.collected.with_line.Goals as goal

pub returns-in_err-collected : goal.returns-in_err-collected
returns-in_err-collected c = λ lines was.
    let h = rw c.in_err-collected.was at was in
    let still = too_long_still lines (c.args.line ∷ []) c.in_err-collected.field-0.0 h in
    search (rules, still)

pub returns-in_err-add : goal.returns-in_err-add
returns-in_err-add c = λ lines was.
    let h = rw c.in_ok-collected.was at was in
    let long = too_long lines c.args.line c.in_ok-collected.collected c.in_err-add.field-0.0 h.0 c.in_err-add.ensures.err in
    search (rules, long)

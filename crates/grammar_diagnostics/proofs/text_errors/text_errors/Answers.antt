use Rattle.std.proofs.Common.{◌==◌, ap, sym, ◌∙◌, subst, List}
use Rattle.std.specs.List.{slice_split}
use Rattle.grammar_text.specs.Lines.{lines_of}
use Rattle.grammar_diagnostics.specs.TextErrors.{ArePlacedIn, TextError}
use Rattle.grammar_diagnostics.proofs.SameFaults.{no_error_iff, numbers, same_lines, seen_numbers}
use Rattle.grammar_diagnostics.proofs.Within.{all_placed}
use Rattle.grammar_diagnostics.proofs.text_errors.text_errors.Goals as goal

pub returns-clause-lines : goal.returns-clause-lines
returns-clause-lines c =
    let text = c.args.text.now in
    seen_numbers c.in_ok-errors.errors.items ∙ ap numbers c.in_ok-errors.ensures ∙ same_lines 1 0 (slice_split (λ b. b == 10) text)

pub returns-clause-placed : goal.returns-clause-placed
returns-clause-placed c =
    let text = c.args.text.now in
    let P : List TextError → Type 0 = ArePlacedIn text in
    subst P (sym c.in_ok-errors.ensures) (all_placed text)

pub returns-clause-none : goal.returns-clause-none
returns-clause-none c =
    let text = c.args.text.now in
    no_error_iff c.in_ok-errors.errors.items (lines_of text) (seen_numbers c.in_ok-errors.errors.items ∙ ap numbers c.in_ok-errors.ensures ∙ same_lines 1 0 (slice_split (λ b. b == 10) text))

use Rattle.std.proofs.Common.{◌+◌, length, ap, ◌∙◌, arith, List, ℕ, Some, None}
use Rattle.lalrpop_grammar.specs.declared.repr.Span.{Span}
use Rattle.grammar_diagnostics.specs.declared.warning_places.Place.{Place}
use Rattle.grammar_diagnostics.specs.Pieces.{piece_view}
use Rattle.grammar_diagnostics.specs.Places.{line_at}
use Rattle.grammar_diagnostics.specs.Warnings.{warning_view}
use Rattle.grammar_diagnostics.proofs.Within.{IsWithin}
use Rattle.grammar_diagnostics.proofs.FoundWords.{is_warning_place, line_fits}
use Rattle.grammar_diagnostics.proofs.warning_places.warning_place.Goals as goal

pub returns-in-None : goal.returns-in-None
returns-in-None c =
    let text = c.args.lines.now.text.now in
    let span : Span = c.span-span.result in
    let make : Span → Place = λ x. record { line = c.line_at-number.result; column = 1; span = x } in
    let counted = c.line_at-number.ensures ∙ ap (λ (t : List ℕ). line_at t span.0) c.text.ensures in
    is_warning_place c.args.start.now (warning_view c.args.warning.now) text span c.line_at-number.result None (make span) c.span-span.ensures counted c.in-None.ensures (ap make c.span-span.ensures)

pub returns-in_ok-place-in-Some : goal.returns-in_ok-place-in-Some
returns-in_ok-place-in-Some c =
    let text = c.args.lines.now.text.now in
    let span : Span = c.span-span.result in
    let counted = c.line_at-number.ensures ∙ ap (λ (t : List ℕ). line_at t span.0) c.text.ensures in
    is_warning_place c.args.start.now (warning_view c.args.warning.now) text span c.line_at-number.result (Some (piece_view c.in-Some.line)) _ c.span-span.ensures counted c.in-Some.ensures c.in_ok-place-in-Some.ensures

pub place_on-requires : goal.place_on-requires
place_on-requires c =
    let text = c.args.lines.now.text.now in
    let span : Span = c.span-span.result in
    let fits : IsWithin 0 (0 + length text) (piece_view c.in-Some.line) = line_fits span.0 text (Some (piece_view c.in-Some.line)) c.in-Some.ensures in
    omega (arith, fits.ends)

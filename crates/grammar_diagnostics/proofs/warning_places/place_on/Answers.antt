use Rattle.std.proofs.Common.{◌≡◌, ℕ, length, map, ap, ◌∙◌, arith, List, Some, None}
use Rattle.lalrpop_grammar.specs.declared.repr.Span.{Span}
use Rattle.grammar_text.specs.Lines.{without_cr}
use Rattle.grammar_text.proofs.Texts.{without_cr-le}
use Rattle.grammar_diagnostics.specs.declared.pieces.Piece.{Piece as PieceWords}
use Rattle.grammar_diagnostics.specs.declared.warning_places.Place.{Place}
use Rattle.grammar_diagnostics.specs.Pieces.{Piece, piece_view, words_at}
use Rattle.grammar_diagnostics.specs.Warnings.{doubt_span, warning_view}
use Rattle.grammar_diagnostics.specs.WarningPlaces.{place_in_line, word_about}
use Rattle.grammar_diagnostics.proofs.Within.{IsWithin}
use Rattle.grammar_diagnostics.proofs.FoundWords.{about_fits}
use Rattle.grammar_diagnostics.proofs.warning_places.place_on.Goals as goal

pub returns-in-None : goal.returns-in-None
returns-in-None c =
    let s = c.args.start.now in
    let w = warning_view c.args.warning.now in
    let line : Piece = piece_view c.args.line in
    let found : None ≡ word_about s w (words_at 0 (without_cr line.bytes)) = c.in-None.ensures ∙ ap (λ (ps : List PieceWords). word_about s w (map piece_view ps)) c.deref.ensures.value ∙ ap (word_about s w) c.in_ok-words.ensures ∙ ap (λ (l : List ℕ). word_about s w (words_at 0 l)) c.before_cr.ensures in
    let make : Span → Place = λ x. record { line = c.args.number; column = 1; span = x } in
    ap make c.span.ensures ∙ ap (place_in_line c.args.number (doubt_span w) line) found

pub returns : goal.returns
returns c =
    let s = c.args.start.now in
    let w = warning_view c.args.warning.now in
    let line : Piece = piece_view c.args.line in
    let found : Some (piece_view c.in-Some.word) ≡ word_about s w (words_at 0 (without_cr line.bytes)) = c.in-Some.ensures ∙ ap (λ (ps : List PieceWords). word_about s w (map piece_view ps)) c.deref.ensures.value ∙ ap (word_about s w) c.in_ok-words.ensures ∙ ap (λ (l : List ℕ). word_about s w (words_at 0 l)) c.before_cr.ensures in
    c.word_place.ensures ∙ ap (place_in_line c.args.number (doubt_span w) line) found

pub word_place-requires-clause-starts : goal.word_place-requires-clause-starts
word_place-requires-clause-starts c =
    let s = c.args.start.now in
    let w = warning_view c.args.warning.now in
    let f : IsWithin 0 (length (without_cr c.args.line.text.now)) (piece_view c.in-Some.word) =
    about_fits s w c.args.line.text.now (Some (piece_view c.in-Some.word))
    (c.in-Some.ensures ∙ ap (λ (ps : List PieceWords). word_about s w (map piece_view ps)) c.deref.ensures.value ∙ ap (word_about s w) c.in_ok-words.ensures ∙ ap (λ (l : List ℕ). word_about s w (words_at 0 l)) c.before_cr.ensures) in
    omega (arith, f.ends, without_cr-le c.args.line.text.now)

pub word_place-requires-clause-ends : goal.word_place-requires-clause-ends
word_place-requires-clause-ends c =
    let s = c.args.start.now in
    let w = warning_view c.args.warning.now in
    let f : IsWithin 0 (length (without_cr c.args.line.text.now)) (piece_view c.in-Some.word) =
    about_fits s w c.args.line.text.now (Some (piece_view c.in-Some.word))
    (c.in-Some.ensures ∙ ap (λ (ps : List PieceWords). word_about s w (map piece_view ps)) c.deref.ensures.value ∙ ap (word_about s w) c.in_ok-words.ensures ∙ ap (λ (l : List ℕ). word_about s w (words_at 0 l)) c.before_cr.ensures) in
    omega (arith, f.ends, without_cr-le c.args.line.text.now, c.requires)

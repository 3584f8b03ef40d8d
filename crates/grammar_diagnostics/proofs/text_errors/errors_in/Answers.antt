use Rattle.std.proofs.Common.{[], ◌==◌, ◌+◌, length, map, ap, ◌∙◌, arith}
use Rattle.std.specs.List.{slice_split}
use Rattle.grammar_diagnostics.specs.declared.pieces.Piece.{Piece as PieceWords}
use Rattle.grammar_diagnostics.specs.Pieces.{piece_view, pieces_from}
use Rattle.grammar_diagnostics.proofs.Within.{piece_fits, text_within}
use Rattle.grammar_diagnostics.proofs.text_errors.errors_in.Goals as goal

pub add_error-requires : goal.add_error-requires
add_error-requires c =
    let text = c.args.text.now in
    let none : PieceWords = record { start = 0; text = record { ref_ptr = (0, 0); now = [] } } in
    let fits = piece_fits 0 (0 + length text) c.deref-line-items.result.now (pieces_from 0 (slice_split (λ b. b == 10) text)) c.loop-line.line-index none
    (ap (map piece_view) c.deref-line-items.ensures.value ∙ c.in_ok-lines.ensures) (text_within (λ b. b == 10) 0 text) c.loop-line-test.true in
    omega (arith, fits.ends)

use Rattle.std.proofs.Common.{[], ◌==◌, ◌+◌, length, map, ap, ◌∙◌, arith}
use Rattle.std.specs.List.{slice_split}
use Rattle.grammar_diagnostics.specs.declared.pieces.Piece.{Piece as PieceWords}
use Rattle.grammar_diagnostics.specs.Pieces.{piece_view, pieces_from}
use Rattle.grammar_diagnostics.proofs.Within.{piece_fits, text_within}
use Rattle.grammar_diagnostics.proofs.pieces.placed_words.Goals as goal

pub push_words-requires : goal.push_words-requires
push_words-requires c =
    let at = c.args.at in
    let line = c.args.line.now in
    let none : PieceWords = record { start = 0; text = record { ref_ptr = (0, 0); now = [] } } in
    let fits = piece_fits at (at + length line) c.deref-part-items.result.now (pieces_from at (slice_split (λ b. b == 32) line)) c.loop-part.part-index none
    (ap (map piece_view) c.deref-part-items.ensures.value ∙ c.in_ok-parts.ensures) (text_within (λ b. b == 32) at line) c.loop-part-test.true in
    omega (arith, fits.ends, c.requires)

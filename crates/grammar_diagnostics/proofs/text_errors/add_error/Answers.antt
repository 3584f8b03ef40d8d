use Rattle.std.proofs.Common.{ℕ, length, map, ap, ◌∙◌, arith, List, Some}
use Rattle.grammar_text.specs.Lines.{without_cr}
use Rattle.grammar_text.proofs.Texts.{without_cr-le}
use Rattle.grammar_diagnostics.specs.Faults.{fault_of, fault_view}
use Rattle.grammar_diagnostics.specs.declared.pieces.Piece.{Piece as PieceWords}
use Rattle.grammar_diagnostics.specs.Pieces.{piece_view, words_at}
use Rattle.grammar_diagnostics.proofs.Within.{IsWithin, fault_fits}
use Rattle.grammar_diagnostics.proofs.text_errors.add_error.Goals as goal

pub error_of-requires-clause-starts : goal.error_of-requires-clause-starts
error_of-requires-clause-starts c =
    let f : IsWithin 0 (length (without_cr c.args.line.now.text.now)) (piece_view c.in-Some.fault.word) =
    fault_fits c.args.line.now.text.now (Some (fault_view c.in-Some.fault))
    (c.in-Some.ensures ∙ ap (λ (ps : List PieceWords). fault_of (map piece_view ps)) c.deref.ensures.value ∙ ap fault_of c.in_ok-words.ensures ∙ ap (λ (l : List ℕ). fault_of (words_at 0 l)) c.before_cr.ensures) in
    omega (arith, f.ends, without_cr-le c.args.line.now.text.now)

pub error_of-requires-clause-ends : goal.error_of-requires-clause-ends
error_of-requires-clause-ends c =
    let f : IsWithin 0 (length (without_cr c.args.line.now.text.now)) (piece_view c.in-Some.fault.word) =
    fault_fits c.args.line.now.text.now (Some (fault_view c.in-Some.fault))
    (c.in-Some.ensures ∙ ap (λ (ps : List PieceWords). fault_of (map piece_view ps)) c.deref.ensures.value ∙ ap fault_of c.in_ok-words.ensures ∙ ap (λ (l : List ℕ). fault_of (words_at 0 l)) c.before_cr.ensures) in
    omega (arith, f.ends, without_cr-le c.args.line.now.text.now, c.requires)

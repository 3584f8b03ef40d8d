use Rattle.std.proofs.Common.{subst}
use Rattle.text_pieces.specs.Pieces.{piece_text}
use Rattle.lalrpop_report.specs.reports.ReportSinks.{WroteBeginning}
use Rattle.lalrpop_report.proofs.theory.reports.Puts.{on_err, part_of_pieces}
use Rattle.lalrpop_report.proofs.report.sink.put_pieces.Goals as goal

pub returns-in_err-put_piece-clause-part : goal.returns-in_err-put_piece-clause-part
returns-in_err-put_piece-clause-part g c =
    let old = g.S.Sink.contents c.args.out.now in
    let mid = g.S.Sink.contents c.loop-piece.out in
    let new = g.S.Sink.contents c.put_piece.new.out in
    on_err c.from_residual.result
    (subst (WroteBeginning old new) c.pieces-piece-items.ensures
    (part_of_pieces piece_text c.pieces-piece-items.result.now c.loop-piece.piece-index c.piece-item.result old mid new c.loop-piece-test.true c.piece-item.is c.loop-piece.invariant.0 c.in_err-put_piece.ensures.part))

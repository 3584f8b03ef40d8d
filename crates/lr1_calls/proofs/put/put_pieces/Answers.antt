use Rattle.std.proofs.Common.{◌≤◌, length, ◌∙◌, arith}
use Rattle.text_pieces.specs.Pieces.{piece_text}
use Rattle.lr1_calls.proofs.Filled.{length_put, pieces_more}
use Rattle.lr1_calls.proofs.put.put_pieces.Goals as goal

pub loop-piece-preserved : goal.loop-piece-preserved
loop-piece-preserved c =
    let was = c.loop-piece.invariant in
    let put = c.put_piece-at.ensures in
    let out = c.loop-piece.out in
    let new = c.put_piece-at.new.out in
    let within : c.put_piece-at.result ≤ length new = omega (arith, put.place, was.0, length_put out new (piece_text c.piece-item.result) c.loop-piece.at was.0 put.out) in
    (within, pieces_more piece_text c.args.pieces.now c.loop-piece.piece-index c.piece-item.result out new c.loop-piece.at c.put_piece-at.result c.loop-piece-test.true c.piece-item.is was.0 put.out put.place ∙ was.1)

use Rattle.std.proofs.Common.{ℕ, List, [], ◌++◌, take, refl, subst}
use Rattle.std.specs.List.{flat_map}
use Rattle.text_pieces.specs.Pieces.{piece_text}
use Rattle.program_answers.specs.Output.{AppendsBeginning, IsPut}
use Rattle.program_answers.proofs.Written.{part_of_pieces, put_more, with_one}
use Rattle.program_answers.proofs.output.write_pieces.Goals as goal

pub returns-then-not-put_piece-clause-part : goal.returns-then-not-put_piece-clause-part
returns-then-not-put_piece-clause-part g c =
    let old = g.W.Write.contents c.args.out.now in
    let mid = g.W.Write.contents c.loop-piece.out in
    let new = g.W.Write.contents c.put_piece.new.out in
    subst (AppendsBeginning old new) c.pieces-piece-items.ensures
    (part_of_pieces piece_text c.pieces-piece-items.result.now c.loop-piece.piece-index c.piece-item.result old mid new c.loop-piece.buffer.items c.loop-piece-test.true c.piece-item.is c.loop-piece.invariant c.put_piece.ensures.part)

pub loop-piece-preserved : goal.loop-piece-preserved
loop-piece-preserved g c =
    let old = g.W.Write.contents c.args.out.now in
    let mid = g.W.Write.contents c.loop-piece.out in
    let new = g.W.Write.contents c.put_piece.new.out in
    let items = c.pieces-piece-items.result.now in
    let before = flat_map piece_text (take c.loop-piece.piece-index items) in
    subst (λ (bytes : List ℕ). IsPut old new [] c.put_piece.new.buffer.items bytes) (with_one piece_text items c.loop-piece.piece-index c.piece-item.result c.loop-piece-test.true c.piece-item.is)
    (put_more old mid new [] c.loop-piece.buffer.items c.put_piece.new.buffer.items before (piece_text c.piece-item.result) c.loop-piece.invariant (c.if-not-put_piece.ensures.put refl))

use Rattle.std.proofs.Common.{[], take}
use Rattle.std.specs.List.{flat_map}
use Rattle.text_pieces.specs.Pieces.{piece_text}
use Rattle.program_answers.specs.Output.{IsPut}
use Rattle.program_answers.proofs.output.write_pieces.Given as goal

-- the pieces so far were put
abbrev pub invariant-loop-piece : goal.invariant-loop-piece
invariant-loop-piece g l = IsPut (g.W.Write.contents l.initial.out) (g.W.Write.contents l.out) [] l.buffer.items (flat_map piece_text (take l.piece-index l.piece-items))

use Rattle.std.proofs.Common.{◌≡◌, take}
use Rattle.std.specs.List.{flat_map}
use Rattle.std.specs.Io.KnownBytes.{Appends}
use Rattle.text_pieces.specs.Pieces.{piece_text}
use Rattle.lalrpop_report.proofs.report.sink.put_pieces.Given as goal

-- the pieces so far were put, without a fault
abbrev pub invariant-loop-piece : goal.invariant-loop-piece
invariant-loop-piece g l =
    Appends (g.S.Sink.contents l.initial.out) (g.S.Sink.contents l.out) (flat_map piece_text (take l.piece-index l.piece-items))
    × (g.S.Sink.fault_count l.out ≡ g.S.Sink.fault_count l.initial.out)

use Rattle.std.proofs.Common.{◌≡◌, ◌≤◌, ◌++◌, length, take, drop}
use Rattle.std.specs.List.{flat_map}
use Rattle.text_pieces.specs.Pieces.{piece_text}
use Rattle.lr1_calls.specs.Copied.{filled}
use Rattle.lr1_calls.proofs.put.put_pieces.Given as goal

-- the pieces that are left, copied to the next place, make the whole text
abbrev pub invariant-loop-piece : goal.invariant-loop-piece
invariant-loop-piece l =
    (l.at ≤ length l.out) × (take l.at l.out ++ filled (flat_map piece_text (drop l.piece-index l.pieces)) (drop l.at l.out) ≡ filled (flat_map piece_text l.pieces) l.initial.out)

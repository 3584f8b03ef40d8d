use Rattle.std.proofs.Common.{◌≡◌, ◌+◌, length, drop}
use Rattle.std.specs.List.{flat_map}
use Rattle.text_pieces.specs.Pieces.{piece_text}
use Rattle.lr1_calls.proofs.put.length_of.Given as goal

-- the bytes so far, and those of the pieces that are left, are all bytes
abbrev pub invariant-loop-own : goal.invariant-loop-own
invariant-loop-own l = l.length + length (flat_map piece_text (drop l.own-index l.pieces)) ≡ length (flat_map piece_text l.pieces)

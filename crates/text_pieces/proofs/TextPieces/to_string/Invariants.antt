use Rattle.std.proofs.Common.{◌≡◌, ◌++◌, drop}
use Rattle.std.specs.Prelude.{string_bytes}
use Rattle.std.specs.List.{flat_map}
use Rattle.text_pieces.specs.Pieces.{piece_text}
use Rattle.text_pieces.proofs.TextPieces.to_string.Given as goal

-- what was copied, and the pieces to come, are the whole text
abbrev pub invariant-loop-own : goal.invariant-loop-own
invariant-loop-own l = string_bytes l.whole ++ flat_map piece_text (drop l.own-index l.own-items) ≡ flat_map piece_text l.own-items

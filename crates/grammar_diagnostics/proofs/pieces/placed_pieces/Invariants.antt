use Rattle.std.proofs.Common.{◌≡◌, ◌==◌, ◌+◌, map, length, ◌++◌}
use denote.Text.{Utf8}
use denote.Shadow.{shadow}
use Rattle.std.specs.List.{slice_split}
use Rattle.grammar_diagnostics.specs.Pieces.{piece_view, pieces_from}
use Rattle.grammar_diagnostics.proofs.pieces.placed_pieces.Given as goal

-- the pieces so far, and those of the rest, which ends where the text ends
abbrev pub invariant-loop-piece : goal.invariant-loop-piece
invariant-loop-piece l =
    shadow (Utf8 l.rest)
    × (l.start + length l.rest ≡ l.at + length l.text)
    × (map piece_view l.all.items ++ pieces_from l.start (slice_split (λ b. b == l.fn.by) l.rest) ≡ pieces_from l.at (slice_split (λ b. b == l.fn.by) l.text))

abbrev pub decreases-loop-piece : goal.decreases-loop-piece
decreases-loop-piece l = length l.rest

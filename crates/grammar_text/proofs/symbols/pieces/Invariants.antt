use Rattle.std.proofs.Common.{◌≡◌, ◌==◌, map, length, ◌++◌}
use denote.Text.{Utf8}
use denote.Shadow.{shadow}
use Rattle.std.specs.List.{slice_split}
use Rattle.grammar_text.proofs.symbols.pieces.Given as goal

-- the pieces so far, and those of the rest
abbrev pub invariant-loop-piece : goal.invariant-loop-piece
invariant-loop-piece l =
    shadow (Utf8 l.rest) × (map (λ p. p.now) l.all.items ++ slice_split (λ b. b == l.fn.by) l.rest ≡ slice_split (λ b. b == l.fn.by) l.text)

abbrev pub decreases-loop-piece : goal.decreases-loop-piece
decreases-loop-piece l = length l.rest

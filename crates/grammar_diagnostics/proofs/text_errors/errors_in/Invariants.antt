use Rattle.std.proofs.Common.{◌≡◌, ◌+◌, ◌++◌, map, drop}
use Rattle.grammar_diagnostics.specs.Pieces.{piece_view}
use Rattle.grammar_diagnostics.specs.TextErrors.{error_view, errors_from}
use Rattle.grammar_diagnostics.proofs.text_errors.errors_in.Given as goal

-- the errors so far, and those of the lines that are left
abbrev pub invariant-loop-line : goal.invariant-loop-line
invariant-loop-line l =
    (l.number ≡ l.line-index)
    × (map error_view l.errors.items ++ errors_from (l.number + 1) (map piece_view (drop l.line-index l.line-items)) ≡ errors_from 1 (map piece_view l.line-items))

use Rattle.std.proofs.Common.{◌≡◌, ◌≤◌, ◌++◌, length, string_bytes}
use Rattle.lalrpop_parser.specs.Words.{forest_of}
use Rattle.parse_pictures.specs.TreeGraphs.{parented_rows, statements_left, statements_under, trees_in}
use Rattle.parse_pictures.specs.TreeNodes.{turns_left}
use Rattle.parse_pictures.proofs.graph.push_under.Given as goal

-- the text so far and the lines that are left are those of all trees. The next number is at most
-- the length of the text
abbrev pub invariant-loop-row : goal.invariant-loop-row
invariant-loop-row l =
    (string_bytes l.text ++ statements_left l.number (parented_rows l.stack.items) ≡ string_bytes l.fn.text ++ statements_under 0 1 (forest_of l.trees))
    × (l.number ≤ length (string_bytes l.text))

abbrev pub decreases-loop-row : goal.decreases-loop-row
decreases-loop-row l = turns_left (trees_in (parented_rows l.stack.items))

use Rattle.std.proofs.Common.{◌≡◌, ◌++◌, string_bytes}
use Rattle.lalrpop_base.specs.Words.{beside, no_trees}
use Rattle.lalrpop_parser.specs.Words.{tree_of}
use Rattle.parse_pictures.specs.TreeLines.{lines_left, rows_of, tree_lines}
use Rattle.parse_pictures.specs.TreeNodes.{turns_left}
use Rattle.parse_pictures.proofs.lines.tree_text.Given as goal

-- the text so far and the lines that are left are the lines of the tree
abbrev pub invariant-loop-here : goal.invariant-loop-here
invariant-loop-here l = string_bytes l.text ++ lines_left (rows_of l.stack.items) ≡ tree_lines 0 (beside (tree_of l.tree) no_trees)

abbrev pub decreases-loop-here : goal.decreases-loop-here
decreases-loop-here l = turns_left (rows_of l.stack.items)

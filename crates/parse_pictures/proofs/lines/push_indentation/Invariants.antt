use Rattle.std.proofs.Common.{◌≡◌, ◌++◌, string_bytes}
use Rattle.parse_pictures.specs.TreeLines.{indentation}
use Rattle.parse_pictures.proofs.lines.push_indentation.Given as goal

-- the text so far and the levels that are left are the indentation
abbrev pub invariant-loop-left : goal.invariant-loop-left
invariant-loop-left l = string_bytes l.text ++ indentation l.left ≡ string_bytes l.fn.text ++ indentation l.depth

abbrev pub decreases-loop-left : goal.decreases-loop-left
decreases-loop-left l = l.left

use Rattle.std.proofs.Common.{◌≡◌, ◌++◌, List}
use Rattle.grammar_text.specs.declared.lines.PlacedLine.{PlacedLine}
use Rattle.grammar_text.specs.Collected.{IsSoFar}
use Rattle.grammar_text.proofs.collected.Collected.of_lines.Given as goal

-- what the lines before those that are left give
abbrev pub invariant-loop-line : goal.invariant-loop-line
invariant-loop-line l = (done : List PlacedLine) × (done ++ l.line-iterator.rest.items ≡ l.fn.lines.items) × IsSoFar done l.so_far

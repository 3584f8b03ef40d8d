use Rattle.std.proofs.Common.{map, take}
use Rattle.conflict_causes.specs.CauseLines.{AreLinesOf, line_view}
use Rattle.conflict_causes.proofs.text.one_line.lines_of.Given as goal

-- the lines so far are those of the causes so far
abbrev pub invariant-loop-cause : goal.invariant-loop-cause
invariant-loop-cause l = AreLinesOf l.terminals l.states l.conflicts (take l.cause-index l.causes) (map line_view l.lines.items)

use Rattle.std.proofs.Common.{◌≡◌, ◌++◌, map, drop}
use Rattle.conflict_causes.specs.CauseLines.{line_view}
use Rattle.lrshow_check.specs.Check.{cause_finding}
use Rattle.lrshow_check.specs.Findings.{finding_view}
use Rattle.lrshow_check.proofs.check.causes.push_causes.Given as goal

-- the findings so far, and those of the causes that are left
abbrev pub invariant-loop-cause : goal.invariant-loop-cause
invariant-loop-cause l = map finding_view l.all.items ++ map (cause_finding l.lines.text.now) (map line_view (drop l.cause-index l.causes)) ≡ map finding_view l.initial.all.items ++ map (cause_finding l.lines.text.now) (map line_view l.causes)

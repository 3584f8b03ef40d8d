use Rattle.std.proofs.Common.{map, take}
use Rattle.grammar_diagnostics.specs.Warnings.{warning_view}
use Rattle.lrshow_check.specs.Check.{AreDoubtFindings}
use Rattle.lrshow_check.specs.Findings.{finding_view}
use Rattle.lrshow_check.proofs.check.doubts.doubt_findings.Given as goal

-- the findings so far are those of the warnings so far
abbrev pub invariant-loop-warning : goal.invariant-loop-warning
invariant-loop-warning l = AreDoubtFindings l.lines.text.now l.start l.grammar (map warning_view (take l.warning-index l.warnings)) (map finding_view l.found.items)

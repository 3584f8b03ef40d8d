use Rattle.std.proofs.Common.{◌≡◌, ◌++◌, map, drop}
use Rattle.grammar_diagnostics.specs.TextErrors.{error_view}
use Rattle.lrshow_check.specs.Check.{error_finding}
use Rattle.lrshow_check.specs.Findings.{finding_view}
use Rattle.lrshow_check.proofs.check.errors.error_findings.Given as goal

-- the findings so far, and those of the errors that are left
abbrev pub invariant-loop-error : goal.invariant-loop-error
invariant-loop-error l = map finding_view l.found.items ++ map error_finding (map error_view (drop l.error-index l.errors)) ≡ map error_finding (map error_view l.errors)

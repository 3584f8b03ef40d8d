use Rattle.std.proofs.Common.{◌≡◌, drop, map}
use Rattle.std.specs.List.{list_any}
use Rattle.lrshow_check.specs.Findings.{Finding, finding_view}
use Rattle.lrshow_check.proofs.findings.has_error.Given as goal

-- the findings so far have no error, so that one of all is one of those that are left
abbrev pub invariant-loop-finding : goal.invariant-loop-finding
invariant-loop-finding l =
    list_any (λ (f : Finding). f.is_error) (map finding_view (drop l.finding-index l.findings))
    ≡ list_any (λ (f : Finding). f.is_error) (map finding_view l.findings)

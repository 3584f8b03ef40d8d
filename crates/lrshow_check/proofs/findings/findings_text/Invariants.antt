use Rattle.std.proofs.Common.{◌≡◌, ◌++◌, map, drop, string_bytes}
use Rattle.lrshow_check.specs.Findings.{finding_view, findings_text}
use Rattle.lrshow_check.proofs.findings.findings_text.Given as goal

-- the lines so far, and those of the findings that are left
abbrev pub invariant-loop-finding : goal.invariant-loop-finding
invariant-loop-finding l =
    string_bytes l.text ++ findings_text l.name (map finding_view (drop l.finding-index l.findings))
    ≡ findings_text l.name (map finding_view l.findings)

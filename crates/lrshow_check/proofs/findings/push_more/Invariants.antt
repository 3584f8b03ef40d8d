use Rattle.std.proofs.Common.{◌≡◌, ◌++◌, map, drop, string_bytes}
use Rattle.lrshow_check.specs.Findings.{finding_view, more_json}
use Rattle.lrshow_check.proofs.findings.push_more.Given as goal

-- the elements so far, and those that are left
abbrev pub invariant-loop-finding : goal.invariant-loop-finding
invariant-loop-finding l =
    string_bytes l.text ++ more_json (map finding_view (drop l.finding-index l.findings))
    ≡ string_bytes l.fn.text ++ more_json (map finding_view l.findings)

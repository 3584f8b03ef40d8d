use Rattle.std.proofs.Common.{◌≡◌, ◌+◌, ◌++◌, ◌∷◌, ℕ, List, map, drop, ap, sym, string_bytes, append_assoc, ◌∙◌}
use Rattle.std.proofs.lemmas.List.{at_drop_more}
use Rattle.lrshow_check.specs.declared.findings.Finding.{Finding}
use Rattle.lrshow_check.specs.Findings.{finding_line, finding_view, findings_text}
use Rattle.lrshow_check.proofs.findings.findings_text.Goals as goal

pub loop-finding-preserved : goal.loop-finding-preserved
loop-finding-preserved c =
    let name = c.args.name.now in
    let all : List Finding = c.args.findings.now in
    let i = c.loop-finding.finding-index in
    let f : Finding = c.finding-item.result in
    let old = string_bytes c.loop-finding.text in
    let rest = findings_text name (map finding_view (drop (i + 1) all)) in
    let next : drop i all ≡ f ∷ drop (i + 1) all = at_drop_more (λ (qs : List Finding). qs) all i f c.loop-finding-test.true ∙ ap (λ (x : Finding). x ∷ drop (i + 1) all) (sym c.finding-item.is) in
    ap (λ (s : List ℕ). s ++ rest) c.in_ok-push_line.ensures
    ∙ append_assoc old (finding_line name (finding_view f)) rest
    ∙ ap (λ (qs : List Finding). old ++ findings_text name (map finding_view qs)) (sym next)
    ∙ c.loop-finding.invariant

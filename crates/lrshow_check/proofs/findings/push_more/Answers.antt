use Rattle.std.proofs.Common.{◌≡◌, ◌+◌, ◌++◌, ◌∷◌, ℕ, List, ap, append_assoc, codes, drop, map, string_bytes, sym, ◌∙◌}
use Rattle.std.proofs.lemmas.List.{at_drop_more}
use Rattle.lrshow_check.specs.declared.findings.Finding.{Finding}
use Rattle.lrshow_check.specs.Findings.{finding_json, finding_view, more_json}
use Rattle.lrshow_check.proofs.findings.push_more.Goals as goal

pub loop-finding-preserved : goal.loop-finding-preserved
loop-finding-preserved c =
    let all : List Finding = c.args.findings.now in
    let i = c.loop-finding.finding-index in
    let f : Finding = c.finding-item.result in
    let old = string_bytes c.loop-finding.text in
    let rest = more_json (map finding_view (drop (i + 1) all)) in
    let next : drop i all ≡ f ∷ drop (i + 1) all = at_drop_more (λ (qs : List Finding). qs) all i f c.loop-finding-test.true ∙ ap (λ (x : Finding). x ∷ drop (i + 1) all) (sym c.finding-item.is) in
    let grown : string_bytes c.push_finding.new.text ≡ old ++ (codes ",\n" ++ finding_json (finding_view f)) = c.in_ok-push_finding.ensures ∙ ap (λ (s : List ℕ). s ++ finding_json (finding_view f)) c.in_ok-push_str.ensures.bytes ∙ append_assoc old (codes ",\n") (finding_json (finding_view f)) in
    ap (λ (s : List ℕ). s ++ rest) grown
    ∙ append_assoc old (codes ",\n" ++ finding_json (finding_view f)) rest
    ∙ ap (λ (qs : List Finding). old ++ more_json (map finding_view qs)) (sym next)
    ∙ c.loop-finding.invariant

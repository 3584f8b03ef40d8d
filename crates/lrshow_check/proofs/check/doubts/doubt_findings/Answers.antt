use Rattle.std.proofs.Common.{◌≡◌, ◌+◌, ◌++◌, ◌∷◌, ◌∙◌, List, [], ap, map, subst, sym, take}
use Rattle.std.proofs.lemmas.List.{map-append, take_more}
use Rattle.grammar_diagnostics.specs.Warnings.{Doubt, warning_view}
use Rattle.grammar_diagnostics.specs.declared.warnings.Warning.{Warning}
use Rattle.lrshow_check.specs.declared.findings.Finding.{Finding}
use Rattle.lrshow_check.specs.Check.{AreDoubtFindings}
use Rattle.lrshow_check.specs.Findings.{Finding as Found, finding_view}
use Rattle.lrshow_check.proofs.Doubts.{one_doubt_more}
use Rattle.lrshow_check.proofs.check.doubts.doubt_findings.Goals as goal

pub loop-warning-preserved : goal.loop-warning-preserved
loop-warning-preserved c =
    let text = c.args.lines.now.text.now in
    let start = c.args.start.now in
    let g = c.args.grammar.now in
    let ws : List Warning = c.args.warnings.now in
    let i = c.loop-warning.warning-index in
    let w : Warning = c.warning-item.result in
    let f : Finding = c.in_ok-doubt_finding.field-0 in
    let old : List Finding = c.loop-warning.found.items in
    let more : take (i + 1) ws ≡ take i ws ++ w ∷ [] = take_more ws i w c.loop-warning-test.true ∙ ap (λ (y : Warning). take i ws ++ y ∷ []) (sym c.warning-item.is) in
    let views : map warning_view (take (i + 1) ws) ≡ map warning_view (take i ws) ++ warning_view w ∷ [] = ap (map warning_view) more ∙ map-append warning_view (take i ws) (w ∷ []) in
    let items : map finding_view c.push.new.self.items ≡ map finding_view old ++ finding_view f ∷ [] = ap (map finding_view) c.in_ok-push.ensures.items ∙ map-append finding_view old (f ∷ []) in
    subst (λ (fs : List Found). AreDoubtFindings text start g (map warning_view (take (i + 1) ws)) fs) (sym items)
    (subst (λ (vs : List Doubt). AreDoubtFindings text start g vs (map finding_view old ++ finding_view f ∷ [])) (sym views)
    (one_doubt_more text start g (map warning_view (take i ws)) (map finding_view old) (warning_view w) (finding_view f) c.loop-warning.invariant c.in_ok-doubt_finding.ensures))

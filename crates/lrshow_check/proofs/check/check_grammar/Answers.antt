use Rattle.std.proofs.Common.{◌≡◌, ℕ, List, map, subst}
use Rattle.lrshow_check.specs.Check.{AreWarned, IsLastAnswer}
use Rattle.lrshow_check.specs.Findings.{Finding, finding_view}
use Rattle.lrshow_arguments.specs.Words.{check_view}
use Rattle.lrshow_check.proofs.Checked.{checked_grammar}
use Rattle.lrshow_check.proofs.check.check_grammar.Goals as goal

pub returns : goal.returns
returns c =
    let asked = check_view c.args.check in
    let start = c.in_ok-start.start in
    let text = c.args.text.now in
    let found : List Finding = map finding_view c.in_ok-found.found.items in
    let same : c.in_ok-lines.lines.text.now ≡ text = c.in_ok-lines.ensures.text in
    checked_grammar c.args.method asked start c.args.name.now text found c.args.grammar c.in_ok-answer.answer c.in_ok-start.ensures c.utf8.text c.requires.right c.requires.stands
    (subst (λ (t : List ℕ). AreWarned t start c.args.grammar found) same c.in_ok-found.ensures)
    (subst (λ (t : List ℕ). IsLastAnswer c.args.method start asked c.args.name.now t found c.args.grammar c.in_ok-answer.answer) same c.in_ok-answer.ensures)

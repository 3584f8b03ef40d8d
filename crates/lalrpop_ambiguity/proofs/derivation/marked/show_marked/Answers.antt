use Rattle.std.proofs.Common.{◌≡◌, Option, [], ◌∷◌, ◌++◌, true, ap, sym, subst, ◌∙◌, rules, append_assoc}
use Rattle.std.proofs.Output.{has_written_append, has_written_of_eq}
use Rattle.lalrpop_ambiguity.specs.Words.{GivesStep, beside, forest_of, no_trees, step_of, steps_of, steps_over, tree_of}
use Rattle.lalrpop_ambiguity.specs.Words.{is_marked, left_after, mark_if, marked_step_text, marked_steps, text_left}
use Rattle.lalrpop_ambiguity.specs.declared.derivation.walk.DerivationStep.{DerivationStep}
use Rattle.lalrpop_ambiguity.proofs.theory.derivations.MarkedTexts.{ended, turned}
use Rattle.lalrpop_ambiguity.proofs.derivation.marked.show_marked.Goals as goal

pub steps-init : goal.steps-init
steps-init g c plain =
    let t = tree_of c.args.tree.now in
    let walk : steps_of c.new-walk.result ≡ steps_over (beside t no_trees) = c.new-walk.ensures ∙ ap (λ l. steps_over (forest_of l)) c.from_ref.ensures.value in
    ([], search (rules, plain), ap (λ s. marked_steps c.args.moves true s) walk)

pub steps-preserved : goal.steps-preserved
steps-preserved g c plain =
    let l = c.steps in
    let (done, wrote, whole) = l.invariant plain in
    let one = c.show_marked_step.ensures wrote.plain (search rules) in
    let step = c.in-Some.step in
    let s = step_of step in
    let rest = steps_of c.next_step.new.walk in
    let gives : steps_of l.walk ≡ s ∷ rest = subst (λ (o : Option DerivationStep). GivesStep o (steps_of l.walk) rest) c.in-Some.is c.in_ok-step.ensures in
    let text = marked_step_text c.is_marked.result l.is_first s in
    let split : text ++ text_left c.left_after-left.result c.is_entering-is_first.result rest ≡ text_left l.left l.is_first (steps_of l.walk) =
    ap (λ b. marked_step_text b l.is_first s ++ text_left c.left_after-left.result c.is_entering-is_first.result rest) c.is_marked.ensures
    ∙ ap (λ o. marked_step_text (is_marked l.left s) l.is_first s ++ text_left o c.is_entering-is_first.result rest) c.left_after-left.ensures
    ∙ ap (λ b. marked_step_text (is_marked l.left s) l.is_first s ++ text_left (left_after l.left s) b rest) c.is_entering-is_first.ensures
    ∙ turned l.left l.is_first s rest
    ∙ ap (text_left l.left l.is_first) (sym gives) in (
      done ++ text,
      has_written_append _ _ _ _ _ _ wrote one,
      append_assoc done text (text_left c.left_after-left.result c.is_entering-is_first.result rest) ∙ ap (λ s. done ++ s) split ∙ whole,
    )

pub returns : goal.returns
returns g c plain ok =
    let l = c.steps in
    let (done, wrote, whole) = l.invariant plain in
    let end = c.mark_if.result.now in
    let none : steps_of l.walk ≡ [] = rw c.in_default.is at c.in_ok-step.ensures in
    let last : end ≡ text_left l.left l.is_first (steps_of l.walk) =
    c.mark_if.ensures
    ∙ ap (λ b. mark_if b l.is_first) c.is_some.ensures
    ∙ ended l.left l.is_first
    ∙ ap (text_left l.left l.is_first) (sym none) in
    has_written_of_eq _ _ _ _ _ (ap (λ s. done ++ s) last ∙ whole) (has_written_append _ _ _ _ _ _ wrote (c.write_str.ensures.writes wrote.plain ok))

use Rattle.std.proofs.Common.{◌≡◌, Option, [], ◌∷◌, ◌++◌, true, ap, sym, subst, ◌∙◌, rules, append_assoc}
use Rattle.std.proofs.Output.{has_written_append}
use Rattle.lalrpop_ambiguity.specs.Words.{GivesStep, forest_of, step_of, step_text, steps_of, steps_over, steps_text, trees_text}
use Rattle.lalrpop_ambiguity.specs.declared.derivation.walk.DerivationStep.{DerivationStep}
use Rattle.lalrpop_ambiguity.proofs.theory.derivations.Steps.{written_whole}
use Rattle.lalrpop_ambiguity.proofs.derivation.text.show_children.Goals as goal

pub steps-init : goal.steps-init
steps-init g c plain =
    let children = c.args.children.now.items in
    let walk : steps_of c.new-walk.result ≡ steps_over (forest_of children) = c.new-walk.ensures ∙ ap (λ l. steps_over (forest_of l)) c.deref.ensures.value in
    let whole : steps_text true (steps_of c.new-walk.result) ≡ trees_text true (forest_of children) = ap (steps_text true) walk ∙ written_whole (forest_of children) in
    ([], search (rules, plain), whole)

pub steps-preserved : goal.steps-preserved
steps-preserved g c plain =
    let l = c.steps in
    let (done, wrote, whole) = l.invariant plain in
    let one = c.show_step.ensures wrote.plain (search rules) in
    let step = c.in-Some.step in
    let left = steps_of c.next_step.new.walk in
    let gives : steps_of l.walk ≡ step_of step ∷ left = subst (λ (o : Option DerivationStep). GivesStep o (steps_of l.walk) left) c.in-Some.is c.in_ok-step.ensures in
    let split : step_text l.is_first (step_of step) ++ steps_text c.is_entering-is_first.result left ≡ steps_text l.is_first (steps_of l.walk) =
    ap (λ b. step_text l.is_first (step_of step) ++ steps_text b left) c.is_entering-is_first.ensures ∙ ap (steps_text l.is_first) (sym gives) in (
      done ++ step_text l.is_first (step_of step),
      has_written_append _ _ _ _ _ _ wrote one,
      append_assoc done (step_text l.is_first (step_of step)) (steps_text c.is_entering-is_first.result left) ∙ ap (λ s. done ++ s) split ∙ whole,
    )

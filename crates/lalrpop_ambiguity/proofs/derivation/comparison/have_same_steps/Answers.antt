use Rattle.std.proofs.Common.{◌≡◌, map, ap, sym, ◌∙◌}
use Rattle.lalrpop_ambiguity.specs.Words.{forest_of, steps_of, steps_over, tree_of}
use Rattle.lalrpop_ambiguity.proofs.theory.derivations.Steps.{same_steps}
use Rattle.lalrpop_ambiguity.proofs.derivation.comparison.have_same_steps.Goals as goal

pub steps-init : goal.steps-init
steps-init c =
    let ts = c.args.trees.now.items in
    let us = c.args.others.now.items in
    let walk : steps_of c.new-walk.result ≡ steps_over (forest_of ts) = c.new-walk.ensures ∙ ap (λ l. steps_over (forest_of l)) c.deref.ensures.value in
    let other : steps_of c.new-other.result ≡ steps_over (forest_of us) = c.new-other.ensures ∙ ap (λ l. steps_over (forest_of l)) c.deref-2.ensures.value in
    let same = same_steps (map tree_of ts) (map tree_of us) in (
      λ h. same.0 (sym walk ∙ h ∙ other),
      λ h. walk ∙ same.1 h ∙ sym other,
    )

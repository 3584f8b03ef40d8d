use Rattle.std.proofs.Common.{◌≡◌, [], map, reverse, ap, ◌∙◌}
use Rattle.lalrpop_ambiguity.specs.Words.{forest_of, open_node, steps_of, steps_over, tree_by, tree_of}
use Rattle.lalrpop_ambiguity.proofs.theory.derivations.Steps.{made_whole}
use Rattle.lalrpop_ambiguity.proofs.derivation.copies.clone_node.Goals as goal

pub steps-init : goal.steps-init
steps-init c =
    let name = c.args.production.now in
    let children = c.args.children.now.items in
    let steps = steps_of c.new-walk.result in
    let walk : steps ≡ steps_over (forest_of children) = c.new-walk.ensures ∙ ap (λ l. steps_over (forest_of l)) c.deref.ensures.value in
    ap (λ l. tree_by name (map tree_of c.new.result.items) (reverse (map open_node l)) steps) c.new-around.ensures.items
    ∙ ap (λ l. tree_by name (map tree_of l) [] steps) c.new.ensures.items
    ∙ ap (λ s. tree_by name [] [] s) walk
    ∙ made_whole (forest_of children) name

use Rattle.std.proofs.Common.{◌≡◌, [], map, reverse, ap, ◌∙◌}
use Rattle.lalrpop_parser.specs.Words.{forest_of, open_node, steps_of, steps_over, tree_by, tree_of}
use Rattle.lalrpop_parser.proofs.theory.trees.TreeSteps.{made_whole}
use Rattle.lalrpop_parser.proofs.interpret.tree.copies.clone_node.Goals as goal

pub steps-init : goal.steps-init
steps-init c =
    let name = c.args.name.now in
    let node = c.in_ok-node.node in
    let children = c.args.children.now.items in
    let steps = steps_of c.new-walk.result in
    let walk : steps ≡ steps_over (forest_of children) = c.new-walk.ensures ∙ ap (λ l. steps_over (forest_of l)) c.deref.ensures.value in
    ap (λ l. tree_by node.name (map tree_of node.children.items) (reverse (map open_node l)) steps) c.new-around.ensures.items
    ∙ ap (λ l. tree_by node.name (map tree_of l) [] steps) c.in_ok-node.ensures.bare
    ∙ ap (λ n. tree_by n [] [] steps) c.in_ok-node.ensures.name
    ∙ ap (λ s. tree_by name [] [] s) walk
    ∙ made_whole (forest_of children) name

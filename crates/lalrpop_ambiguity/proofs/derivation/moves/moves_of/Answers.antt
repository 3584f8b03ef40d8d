use Rattle.std.proofs.Common.{◌≡◌, ◌++◌, [], map, reverse, ap, sym, ◌∙◌, append-nil, Bor}
use Rattle.lalrpop_ambiguity.specs.Words.{beside, forest_of, move_of, moves_by, moves_with, no_trees, steps_of, steps_over, tree_of}
use Rattle.lalrpop_ambiguity.proofs.Types.{Production}
use Rattle.lalrpop_ambiguity.proofs.theory.derivations.Moves.{moved_whole}
use Rattle.lalrpop_ambiguity.proofs.derivation.moves.moves_of.Goals as goal

pub steps-init : goal.steps-init
steps-init c =
    let t = tree_of c.args.tree.now in
    let steps = steps_of c.new-walk.result in
    let walk : steps ≡ steps_over (beside t no_trees) = c.new-walk.ensures ∙ ap (λ l. steps_over (forest_of l)) c.from_ref.ensures.value in
    ap (λ l. moves_with l c.new-around.result.items steps) c.new-made.ensures.items
    ∙ ap (λ l. moves_with [] l steps) c.new-around.ensures.items
    ∙ ap (λ s. moves_by [] s) walk
    ∙ moved_whole t

pub returns : goal.returns
returns c =
    let l = c.steps in
    let around = reverse (map (λ (p : Bor Production). p.now) l.around.items) in
    sym (append-nil (map move_of l.made.items))
    ∙ ap (λ s. map move_of l.made.items ++ moves_by around s) (sym (rw c.in_default.is at c.in_ok-step.ensures))
    ∙ l.invariant

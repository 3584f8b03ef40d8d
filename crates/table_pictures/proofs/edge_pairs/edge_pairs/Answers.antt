use Rattle.std.proofs.Common.{◌≡◌, length, subst, sym, ap, ◌∙◌}
use Rattle.std.specs.List.{flat_map}
use Rattle.std.proofs.lemmas.List.{take_all}
use Rattle.table_pictures.specs.EdgePairs.{edge_pairs, state_pairs}
use Rattle.table_pictures.specs.Paths.{AreEdgesBelow}
use Rattle.table_pictures.proofs.PairsBelow.{pairs_below}
use Rattle.table_pictures.proofs.edge_pairs.edge_pairs.Goals as goal

pub returns-clause-below : goal.returns-clause-below
returns-clause-below c =
    let all : c.loop-state.pairs.items ≡ edge_pairs c.args.states.now = c.loop-state.invariant ∙ ap (flat_map (state_pairs (length c.args.states.now))) (take_all c.loop-state.state-index c.args.states.now c.loop-state-test.false) in
    subst (AreEdgesBelow (length c.args.states.now)) (sym all) (pairs_below (length c.args.states.now) c.args.states.now)

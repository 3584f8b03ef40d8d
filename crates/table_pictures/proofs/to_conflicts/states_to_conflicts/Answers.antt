use Rattle.std.proofs.Common.{rules, ◌≡◌, ◌&&◌, ap, arith, le-ltb, length, subst, sym}
use Rattle.table_pictures.specs.ConflictStates.{is_conflict_state}
use Rattle.table_pictures.specs.EdgePairs.{edge_pairs}
use Rattle.table_pictures.specs.Nodes.{has_conflict}
use Rattle.table_pictures.specs.Paths.{AreEdgesBelow}
use Rattle.table_pictures.proofs.ShortestPaths.{none_shortest}
use Rattle.table_pictures.proofs.to_conflicts.states_to_conflicts.Goals as goal

pub returns-then-is_empty-clause-exactly : goal.returns-then-is_empty-clause-exactly
returns-then-is_empty-clause-exactly c =
    let none : length c.args.states.now ≡ 0 = search rules in
    none_shortest (edge_pairs c.args.states.now) (is_conflict_state (length c.args.states.now) c.args.conflicts.now) c.new.result.items (search rules) (λ k. ap (λ b. b && has_conflict c.args.conflicts.now k) (le-ltb k (length c.args.states.now) (omega (arith, none))))

pub on_shortest-requires-clause-below : goal.on_shortest-requires-clause-below
on_shortest-requires-clause-below c = subst (AreEdgesBelow (length c.args.states.now)) (sym c.deref.ensures.value) c.in_ok-edges.ensures.below

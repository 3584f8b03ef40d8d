use Rattle.std.proofs.Common.{rules, ◌&&◌, ap, lt-ltb}
use Rattle.table_pictures.specs.ConflictStates.{is_conflict_state}
use Rattle.table_pictures.specs.Nodes.{has_conflict}
use Rattle.table_pictures.proofs.ShortestPaths.{shortest_found}
use Rattle.table_pictures.proofs.to_conflicts.on_shortest.Goals as goal

pub returns-clause-counted : goal.returns-clause-counted
returns-clause-counted c =
    (shortest_found c.args.edges.now c.args.count (is_conflict_state c.args.count c.args.conflicts.now) (has_conflict c.args.conflicts.now) c.in_ok-first.first.items c.in_ok-reached.reached.items c.in_ok-found.found.items c.in_ok-flags.flags.items c.new-crossed.result.items c.flags_after.new.crossed.items c.in_ok-back.back.items c.requires.some c.requires.below (search rules) (search rules) (search rules) (search rules) (search rules) (search rules) (λ k l. ap (λ b. b && has_conflict c.args.conflicts.now k) (lt-ltb k c.args.count l)) (search rules) (search rules)).0

pub returns-clause-exactly : goal.returns-clause-exactly
returns-clause-exactly c =
    (shortest_found c.args.edges.now c.args.count (is_conflict_state c.args.count c.args.conflicts.now) (has_conflict c.args.conflicts.now) c.in_ok-first.first.items c.in_ok-reached.reached.items c.in_ok-found.found.items c.in_ok-flags.flags.items c.new-crossed.result.items c.flags_after.new.crossed.items c.in_ok-back.back.items c.requires.some c.requires.below (search rules) (search rules) (search rules) (search rules) (search rules) (search rules) (λ k l. ap (λ b. b && has_conflict c.args.conflicts.now k) (lt-ltb k c.args.count l)) (search rules) (search rules)).1

use Rattle.std.proofs.Common.{sym, ap, ◌∙◌, arith, slice_set}
use Rattle.std.specs.Prelude.{slice_get}
use Rattle.std.specs.Vec.{with_item}
use Rattle.lalrpop_collections.proofs.theory.lists.Places.{slice_get_at}
use Rattle.lalrpop_lane_states.proofs.theory.merges.StateSets.{sets_joined, listed_at}
use Rattle.lalrpop_lane_states.proofs.lane_table.construct.merge.context_sets.ContextSets.union.Goals as goal

pub returns-clause-joined : goal.returns-clause-joined
returns-clause-joined c =
    let sets = c.args.self.now in
    let first = c.state_set-first.result in
    let second = c.state_set-second.result in
    let in_first = listed_at sets c.args.source first c.requires.source c.state_set-first.ensures in
    let in_second = listed_at sets c.args.target second c.requires.target c.state_set-second.ensures in
    let number = c.index.ensures in
    let other = c.index-3.ensures in
    sets_joined c.args.source c.args.target sets (record { state_sets = c.replace_sets.new.sets; contexts = with_item sets.contexts c.index-5.result c.in-Ok.union }) first second c.index-2.result.now c.index-4.result.now c.in-Ok.union c.state_set-first.ensures c.state_set-second.ensures
    (ap (slice_get sets.contexts.items) (sym number) ∙ slice_get_at sets.contexts.items c.index.result c.index-2.result.now (omega arith) c.index-2.ensures)
    (ap (slice_get sets.contexts.items) (sym other) ∙ slice_get_at sets.contexts.items c.index-3.result c.index-4.result.now (omega arith) c.index-4.ensures)
    (c.in-Ok.ensures.joined, c.in-Ok.ensures.apart)
    (ap (λ k. slice_set sets.contexts.items k c.in-Ok.union) c.index-5.ensures)
    c.replace_sets.ensures

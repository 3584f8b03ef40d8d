use Rattle.std.proofs.Common.{refl}
use Rattle.lalrpop_lane_states.proofs.theory.merges.LaneCopies.{copies_patched}
use Rattle.lalrpop_lane_states.proofs.theory.merges.LinkedStates.{linked_edges}
use Rattle.lalrpop_lane_states.proofs.theory.merges.Merges.{states_advance, walked_listed}
use Rattle.lalrpop_states.proofs.theory.collapse.Merging.{set_here, set_elsewhere, set_length}
use Rattle.lalrpop_collections.proofs.theory.lists.Places.{slice_get_at}
use Rattle.lalrpop_lane_states.proofs.lane_table.construct.merge.Merge.patch_links.Goals as goal

pub returns-clause-advances : goal.returns-clause-advances
returns-clause-advances c =
    let old = c.args.self.now in
    let n = c.args.predecessor.0 in
    let listed = walked_listed old c.requires.ready c.args.predecessor c.requires.walked in
    let at = slice_get_at old.states.items n c.index_mut-state.result.now listed c.index_mut-state.ensures.value in
    states_advance old _ c.requires.ready (set_length old.states.items n _) (λ exact handed copies.
    copies_patched exact handed old.originals.items old.states.items copies n c.args.original_successor.0 c.args.cloned_successor.0 c.index_mut-state.result.now _ at c.requires.own c.requires.copy refl refl c.replace_targets.ensures refl c.replace_targets-2.ensures)
    (linked_edges old.originals.items old.states.items n c.args.original_successor.0 c.args.cloned_successor.0 c.index_mut-state.result.now _ at c.requires.copy c.replace_targets.ensures c.replace_targets-2.ensures)

pub returns-clause-relinked : goal.returns-clause-relinked
returns-clause-relinked c =
    let old = c.args.self.now in
    let n = c.args.predecessor.0 in
    let listed = walked_listed old c.requires.ready c.args.predecessor c.requires.walked in
    record {
      source = c.index_mut-state.result.now;
      target = _;
      was = slice_get_at old.states.items n c.index_mut-state.result.now listed c.index_mut-state.ensures.value;
      is = set_here old.states.items n _ listed;
      others = λ k other. set_elsewhere old.states.items n k _ other;
      shifts = c.replace_targets.ensures;
      gotos = c.replace_targets-2.ensures;
    }

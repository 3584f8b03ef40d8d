use Rattle.std.proofs.Common.{ap, false, inl, length, subst, sym, arith}
use Rattle.std.specs.declared.alloc.Global.{Global}
use Rattle.std.specs.declared.vec.Vec.{Vec}
use Rattle.lalrpop_base.specs.Words.{Bits}
use Rattle.lalrpop_lane_states.proofs.Types.{State, StateIndex}
use Rattle.lalrpop_lanes.specs.Words.{HasRow}
use Rattle.lalrpop_lanes.specs.declared.lane_table.table.LaneTable.{LaneTable}
use Rattle.lalrpop_state_graph.proofs.theory.graphs.GraphCopies.{copies_longer}
use Rattle.lalrpop_lane_states.proofs.theory.lane_states.ResolvedCopies.{tried_on}
use Rattle.lalrpop_lane_states.proofs.theory.lane_states.Resolving.{merged_copied, originals_within, patchable_from}
use Rattle.lalrpop_lane_states.proofs.lane_table.construct.merging.merge_states.Goals as goal

pub walk_and_patch-requires-clause-rows : goal.walk_and_patch-requires-clause-rows
walk_and_patch-requires-clause-rows c = λ state among.
    let beachhead = (c.in_ok-beachheads.ensures state).0 among in
    subst (λ (t : LaneTable). HasRow t state) (sym c.in_ok-merge.ensures.over.0) (inl beachhead.0)

pub walk_and_patch-requires-clause-patchable : goal.walk_and_patch-requires-clause-patchable
walk_and_patch-requires-clause-patchable c =
    let over = c.in_ok-merge.ensures.over in
    patchable_from c.args.actions.now.keys c.in_ok-merge.merge c.args.table.now c.args.state c.args.copying.states over.0 over.1 over.3 c.requires.counted c.requires.among

pub update_graph-requires : goal.update_graph-requires
update_graph-requires c =
    let k = c.args.copying.states.ok.0 in
    let n = c.len-count.ensures in
    let same = ap (λ (xs : Vec (State Bits) Global). length xs.items) c.in_ok-merge.ensures.over.3 in
    let longer = copies_longer c.in_ok-merge.merge.states.items c.walk_and_patch.new.merge.states.items c.walk_and_patch.new.merge.originals.items c.in_ok-resolved.ensures.copies in
    omega arith

pub first_originals-requires : goal.first_originals-requires
first_originals-requires c n o at =
    let same = ap (λ (xs : Vec (State Bits) Global). length xs.items) c.in_ok-merge.ensures.over.3 in
    let named = c.requires.named in
    let l = originals_within false c.in_ok-merge.merge.states.items c.walk_and_patch.new.merge.originals.items c.walk_and_patch.new.merge.states.items c.in_ok-resolved.ensures.copies n o (rw c.originals.ensures at at) in
    rw c.deref.ensures.value (omega arith)

pub returns : goal.returns
returns c =
    let k = c.args.copying.states.ok.0 in
    let n = c.len-count.ensures in
    let over = c.in_ok-merge.ensures.over in
    let copied = c.in_ok-resolved.ensures in
    record { copied = merged_copied c.args.copying _ c.in_ok-merge.merge c.walk_and_patch.new.merge c.len-count.result (rw (c.deref.ensures.value, c.originals.ensures) at c.in_ok-originals.ensures) over.3 over.2 copied.copies copied.counted c.into_states-states.ensures.states c.copies_left-copies_left.ensures (omega arith) c.requires.graph c.in_ok-update_graph.ensures; tried = tried_on _ _ _ _ _ _ _ (ap (λ (s : StateIndex). s.0) over.1) (ap (λ (xs : Vec (State Bits) Global). xs.items) over.3) (sym (ap (λ (xs : Vec (State Bits) Global). xs.items) c.into_states-states.ensures.states)) copied.tried }

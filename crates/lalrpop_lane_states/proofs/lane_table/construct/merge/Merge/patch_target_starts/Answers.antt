use Rattle.std.proofs.Common.{ap, ◌∙◌, arith}
use Rattle.lalrpop_lane_states.specs.declared.lane_table.construct.merge.Merge.{Merge}
use Rattle.lalrpop_lane_states.proofs.theory.merges.LanePatches.{targets_among, patched_start, patched_ready, patched_among, patched_copies, patched_all, patched_taken, patched_none, patched_more}
use Rattle.lalrpop_lane_states.proofs.theory.merges.Merges.{merging_coherent}
use Rattle.lalrpop_lane_states.proofs.lane_table.construct.merge.Merge.patch_target_starts.Goals as goal

pub loop-index-init : goal.loop-index-init
loop-index-init c = patched_start c.args.actions.now.keys c.args.self.now c.requires.ready (targets_among c.args.actions.now.keys c.args.self.now c.requires.ready c.requires.patchable.among)

pub loop-index-preserved : goal.loop-index-preserved
loop-index-preserved c = patched_more c.args.actions.now.keys c.args.self.now c.loop-index.self c.loop-index.index c.loop-index.invariant c.patch_target_start.new.self c.in_ok-patch_target_start.ensures.same c.in_ok-patch_target_start.ensures.taken c.in_ok-patch_target_start.ensures.left

pub patch_target_start-requires-clause-ready : goal.patch_target_start-requires-clause-ready
patch_target_start-requires-clause-ready c = patched_ready c.args.actions.now.keys c.args.self.now c.loop-index.self c.loop-index.index c.loop-index.invariant c.requires.ready

pub patch_target_start-requires-clause-there : goal.patch_target_start-requires-clause-there
patch_target_start-requires-clause-there c =
    let k = c.args.self.now.states.ok.0 in
    let n = c.len-count.ensures in
    let l = c.loop-index-test.true in
    let e = c.loop-index.invariant.counted in
    omega arith

pub patch_target_start-requires-clause-counted : goal.patch_target_start-requires-clause-counted
patch_target_start-requires-clause-counted c = ap (λ (m : Merge). m.table.now.conflicts) c.loop-index.invariant.same ∙ c.requires.patchable.counted

pub patch_target_start-requires-clause-among : goal.patch_target_start-requires-clause-among
patch_target_start-requires-clause-among c = patched_among c.args.actions.now.keys c.args.self.now c.loop-index.self c.loop-index.index c.loop-index.invariant

pub returns-in_err-patch_target_start-clause-ready : goal.returns-in_err-patch_target_start-clause-ready
returns-in_err-patch_target_start-clause-ready c =
    let none = patched_none c.args.actions.now.keys c.args.self.now c.loop-index.self c.loop-index.index c.loop-index.invariant c.patch_target_start.new.self c.in_err-patch_target_start.ensures.same c.in_err-patch_target_start.ensures.err in
    patched_ready c.args.actions.now.keys c.args.self.now c.patch_target_start.new.self c.loop-index.index none c.requires.ready

pub returns-in_err-patch_target_start-clause-coherent : goal.returns-in_err-patch_target_start-clause-coherent
returns-in_err-patch_target_start-clause-coherent c =
    let none = patched_none c.args.actions.now.keys c.args.self.now c.loop-index.self c.loop-index.index c.loop-index.invariant c.patch_target_start.new.self c.in_err-patch_target_start.ensures.same c.in_err-patch_target_start.ensures.err in
    merging_coherent c.patch_target_start.new.self (patched_ready c.args.actions.now.keys c.args.self.now c.patch_target_start.new.self c.loop-index.index none c.requires.ready)

pub returns-in_err-patch_target_start-clause-copies : goal.returns-in_err-patch_target_start-clause-copies
returns-in_err-patch_target_start-clause-copies c =
    let none = patched_none c.args.actions.now.keys c.args.self.now c.loop-index.self c.loop-index.index c.loop-index.invariant c.patch_target_start.new.self c.in_err-patch_target_start.ensures.same c.in_err-patch_target_start.ensures.err in
    patched_copies c.args.actions.now.keys c.args.self.now c.patch_target_start.new.self c.loop-index.index none

pub returns-clause-ready : goal.returns-clause-ready
returns-clause-ready c = patched_ready c.args.actions.now.keys c.args.self.now c.loop-index.self c.loop-index.index c.loop-index.invariant c.requires.ready

pub returns-clause-coherent : goal.returns-clause-coherent
returns-clause-coherent c = merging_coherent c.loop-index.self (patched_ready c.args.actions.now.keys c.args.self.now c.loop-index.self c.loop-index.index c.loop-index.invariant c.requires.ready)

pub returns-clause-copies : goal.returns-clause-copies
returns-clause-copies c = patched_copies c.args.actions.now.keys c.args.self.now c.loop-index.self c.loop-index.index c.loop-index.invariant

pub returns-clause-resolved : goal.returns-clause-resolved
returns-clause-resolved c = patched_all c.args.actions.now.keys c.args.self.now c.loop-index.self c.loop-index.index c.loop-index.invariant (let k = c.args.self.now.states.ok.0 in let n = c.len-count.ensures in let l = c.loop-index-test.false in omega arith)

pub returns-clause-taken : goal.returns-clause-taken
returns-clause-taken c = patched_taken c.args.actions.now.keys c.args.self.now c.loop-index.self c.loop-index.index c.loop-index.invariant (let k = c.args.self.now.states.ok.0 in let n = c.len-count.ensures in let l = c.loop-index-test.false in omega arith)

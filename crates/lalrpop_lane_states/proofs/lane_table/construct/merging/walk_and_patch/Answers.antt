use Rattle.std.proofs.Common.{true, ◌∙◌, ap}
use Rattle.std.specs.Prelude.{slice_get}
use Rattle.lalrpop_lane_states.specs.declared.lane_table.construct.merge.Merge.{Merge}
use Rattle.lalrpop_lane_states.proofs.theory.lane_states.ResolvedCopies.{patched_tried, walked_tried}
use Rattle.lalrpop_lane_states.proofs.theory.lane_states.Resolving.{copied_weaker, patchable_on}
use Rattle.lalrpop_lane_states.proofs.lane_table.construct.merging.walk_and_patch.Goals as goal

pub patch_target_starts-requires-clause-patchable : goal.patch_target_starts-requires-clause-patchable
patch_target_starts-requires-clause-patchable c = patchable_on c.args.actions.now.keys c.args.merge.now c.walk_all.new.merge c.requires.begun c.requires.ready c.walk_all.ensures.advances c.requires.patchable

pub returns-in_ok-patch_target_starts-in-Ok-clause-copies : goal.returns-in_ok-patch_target_starts-in-Ok-clause-copies
returns-in_ok-patch_target_starts-in-Ok-clause-copies c = c.patch_target_starts.ensures.copies true c.args.merge.now.states.items (c.walk_all.ensures.advances.copies true c.args.merge.now.states.items c.requires.begun)

pub returns-in-Err : goal.returns-in-Err
returns-in-Err c = record { copies = copied_weaker c.args.merge.now c.walk_all.new.merge c.requires.begun c.walk_all.ensures.advances; counted = c.walk_all.ensures.advances.counted; visited = λ e. cc; tried = walked_tried c.args.merge.now c.walk_all.new.merge c.requires.begun c.walk_all.ensures.advances }

pub returns-in_ok-patch_target_starts-in-Ok-clause-visited : goal.returns-in_ok-patch_target_starts-in-Ok-clause-visited
returns-in_ok-patch_target_starts-in-Ok-clause-visited c e state among = ap (λ (m : Merge). slice_get m.visited.items state.0) c.patch_target_starts.ensures.same ∙ c.in-Ok.ensures.walked.there state among

pub returns-in_ok-patch_target_starts-in-Ok-clause-tried : goal.returns-in_ok-patch_target_starts-in-Ok-clause-tried
returns-in_ok-patch_target_starts-in-Ok-clause-tried c =
    patched_tried c.args.merge.now c.walk_all.new.merge c.requires.begun c.walk_all.ensures.advances c.requires.ready c.patch_target_starts.new.self c.patch_target_starts.ensures.same c.patch_target_starts.ensures.counted c.patch_target_starts.ensures.others c.in_ok-patch_target_starts-in-Ok.ensures.resolved

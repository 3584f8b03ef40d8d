use Rattle.std.proofs.Common.{◌+◌, subst, sym}
use Rattle.lalrpop_follow_sets.specs.follow_sets.FollowWalks.{AreEmptyLists}
use Rattle.lalrpop_follow_sets.proofs.theory.follow_sets.Lookbacks.{empty_more, empty_none}
use Rattle.lalrpop_follow_sets.proofs.follow_sets.lookback.empty_lookback.Goals as goal

pub loop-place-init : goal.loop-place-init
loop-place-init c = subst (AreEmptyLists 0) (sym (c.in_ok-lookback.ensures.items)) empty_none

pub loop-place-preserved : goal.loop-place-preserved
loop-place-preserved c =
    subst (AreEmptyLists (c.loop-place._place + 1)) (sym c.in_ok-push.ensures.items) (empty_more c.loop-place._place c.loop-place.lookback.items c.new.result c.new.ensures.items c.loop-place.invariant)

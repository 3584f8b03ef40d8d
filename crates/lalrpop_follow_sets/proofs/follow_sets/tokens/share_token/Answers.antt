use Rattle.std.proofs.Common.{◌+◌, refl, subst, sym}
use Rattle.lalrpop_follow_sets.proofs.theory.follow_sets.FollowTokens.{ShareNoneBefore, share_begin, share_found, share_more, share_none}
use Rattle.lalrpop_collections.proofs.theory.lists.Places.{slice_get_at}
use Rattle.lalrpop_follow_sets.proofs.follow_sets.tokens.share_token.Goals as goal

pub loop-set-init : goal.loop-set-init
loop-set-init c = share_begin c.args.first c.args.sets.now

pub returns-then-is_intersecting : goal.returns-then-is_intersecting
returns-then-is_intersecting c =
    let k = c.loop-set.set-index in
    let both = c.if-is_intersecting.ensures.yes refl in
    share_found c.args.first c.args.sets.now k c.loop-set.used c.set-item.result (slice_get_at c.args.sets.now k c.set-item.result c.loop-set-test.true c.set-item.is) c.loop-set.invariant both.0 both.1 both.2

pub loop-set-preserved : goal.loop-set-preserved
loop-set-preserved c =
    let k = c.loop-set.set-index in
    subst (ShareNoneBefore c.args.first c.args.sets.now (k + 1)) (sym c.in_ok-union_with.ensures.joined)
    (share_more c.args.first c.args.sets.now k c.loop-set.used c.set-item.result (slice_get_at c.args.sets.now k c.set-item.result c.loop-set-test.true c.set-item.is) c.loop-set.invariant (c.if-is_intersecting.ensures.no refl))

pub returns : goal.returns
returns c = share_none c.args.first c.args.sets.now c.loop-set.set-index c.loop-set.used c.loop-set-test.false c.loop-set.invariant

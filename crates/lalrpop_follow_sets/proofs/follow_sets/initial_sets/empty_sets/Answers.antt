use Rattle.std.proofs.Common.{◌≡◌, ◌+◌, ℕ, arith, subst, sym}
use Rattle.lalrpop_follow_sets.specs.follow_sets.FollowWalks.{AreEmptySets}
use Rattle.lalrpop_follow_sets.proofs.theory.follow_sets.FollowBits.{empty_more, empty_none}
use Rattle.lalrpop_follow_sets.proofs.follow_sets.initial_sets.empty_sets.Goals as goal

pub loop-place-init : goal.loop-place-init
loop-place-init c = subst (AreEmptySets 0) (sym c.in_ok-sets.ensures.items) empty_none

pub loop-place-preserved : goal.loop-place-preserved
loop-place-preserved c =
    subst (AreEmptySets (c.loop-place._place + 1)) (sym c.in_ok-push.ensures.items) (empty_more c.loop-place._place c.loop-place.sets.items c.new.result c.new.ensures c.loop-place.invariant)

pub returns : goal.returns
returns c =
    let all : c.loop-place._place ≡ c.args.count = let l = c.loop-place-test.false in let m = c.loop-place.auto._place-end in omega arith in
    subst (λ (n : ℕ). AreEmptySets n c.loop-place.sets.items) all c.loop-place.invariant

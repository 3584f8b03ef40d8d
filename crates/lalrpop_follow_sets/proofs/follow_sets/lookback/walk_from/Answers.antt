use Rattle.std.proofs.Common.{◌≡◌, ◌<◌, length, subst, arith}
use Rattle.lalrpop_follow_sets.specs.follow_sets.FollowWalks.{EndsAt, IsEndOfWalk}
use Rattle.lalrpop_follow_sets.proofs.theory.follow_sets.Lookbacks.{ends_there, note_as, note_one}
use Rattle.lalrpop_follow_sets.proofs.follow_sets.lookback.walk_from.Goals as goal

pub index_mut-requires : goal.index_mut-requires
index_mut-requires c =
    let q = c.requires.expansion in
    let end = subst (IsEndOfWalk c.args.pass.now c.args.from q.0) c.in-Some.is (c.in_ok-state.ensures.end q.0 q.1) in
    let listed : c.in-Some.state < length c.args.pass.now.states.now = end.1 in
    let same = c.requires.counted in
    let counted = c.args.lookback.now.ok.0 in
    omega arith

pub returns-in_ok-push-clause-noted : goal.returns-in_ok-push-clause-noted
returns-in_ok-push-clause-noted c = λ q expansion.
    let pass = c.args.pass.now in
    let old = c.args.lookback.now.items in
    let state = c.in-Some.state in
    let item = c.in-Some.item in
    let end = subst (IsEndOfWalk pass c.args.from q) c.in-Some.is (c.in_ok-state.ensures.end q expansion) in
    let listed : state < length old = let l = end.1 in let same = c.requires.counted in omega arith in
    note_as c.args.node (λ s k. (s ≡ state) × (k ≡ item)) (EndsAt pass c.args.from q) old _ (ends_there pass c.requires.pass c.args.from q state item end)
    (note_one c.args.node item state old c.index_mut.result.now c.push.new.self listed c.index_mut.ensures.value c.in_ok-push.ensures.items)

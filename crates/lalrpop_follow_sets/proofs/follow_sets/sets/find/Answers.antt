use Rattle.std.proofs.Common.{refl}
use Rattle.lalrpop_follow_sets.proofs.theory.follow_sets.FollowFound.{ends_within, finds_lookaheads}
use Rattle.lalrpop_follow_sets.proofs.follow_sets.sets.find.Goals as goal

pub spread-requires-clause-in_range : goal.spread-requires-clause-in_range
spread-requires-clause-in_range c from to there =
    let edge = rw c.deref.ensures.value at there in
    ends_within c.args.pass.now c.requires c.in_ok-sets.sets.items c.in_ok-edges.edges.items c.in_ok-sets.ensures c.in_ok-edges.ensures.edges from to edge

pub returns : goal.returns
returns c =
    let least = rw c.deref.ensures.value at c.in_ok-spread.ensures.least in
    let tokens = rw c.deref-2.ensures.value at c.in_ok-tokens_of.ensures in
    finds_lookaheads c.args.pass.now c.requires c.in_ok-sets.sets.items c.in_ok-edges.edges.items c.in_ok-sets.ensures c.in_ok-edges.ensures.edges
    c.in_ok-spread.field-0.items c.in_ok-spread.ensures.counted least c.includes.new.lookback.items c.in_ok-edges.ensures.noted _ refl refl tokens

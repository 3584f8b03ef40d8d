use Rattle.std.proofs.Common.{◌+◌, subst, sym}
use Rattle.std.specs.declared.alloc.Global.{Global}
use Rattle.std.specs.declared.vec.Vec.{Vec}
use Rattle.lalrpop_base.specs.Words.{Bits}
use Rattle.lalrpop_follow_sets.specs.follow_sets.FollowWalks.{TakesBits}
use Rattle.lalrpop_follow_sets.proofs.theory.follow_sets.FollowUnions.{GoesBefore, goes_begin, goes_end, goes_past, goes_there}
use Rattle.lalrpop_follow_sets.proofs.follow_sets.unions.join_found.Goals as goal
use Rattle.lalrpop_follow_sets.proofs.follow_sets.unions.join_found.Goals.{then-reductions-place+in_ok-union_with, else-reductions-place}

pub loop-place-init : goal.loop-place-init
loop-place-init c = goes_begin c.args.found.now c.args.item c.args.reductions.now c.args.unions.now.items

pub loop-place-preserved : goal.loop-place-preserved
loop-place-preserved c =
    let k = c.loop-place.place in
    elim c.if-reductions-place.branch [
      | then-reductions-place+in_ok-union_with w ↦
          subst (λ (unions : Vec Bits Global). TakesBits (GoesBefore c.args.found.now c.args.item c.args.reductions.now (k + 1)) c.args.unions.now.items unions.items) (sym w.unions-is)
          (goes_there c.args.found.now c.args.item c.args.reductions.now c.args.unions.now.items c.loop-place.unions.items k c.loop-place-test.true c.requires c.loop-place.invariant
          w.if-reductions-place.true w.index_mut.result.now w.union_with.new.self w.index_mut.ensures.value w.in_ok-union_with.ensures.joined)
      | else-reductions-place w ↦
          subst (λ (unions : Vec Bits Global). TakesBits (GoesBefore c.args.found.now c.args.item c.args.reductions.now (k + 1)) c.args.unions.now.items unions.items) (sym w.unions-is)
          (goes_past c.args.found.now c.args.item c.args.reductions.now c.args.unions.now.items c.loop-place.unions.items k c.loop-place-test.true c.requires c.loop-place.invariant w.if-reductions-place.false)
    ]

pub returns : goal.returns
returns c = goes_end c.args.found.now c.args.item c.args.reductions.now c.args.unions.now.items c.loop-place.unions.items c.loop-place.place c.loop-place-test.false c.loop-place.invariant

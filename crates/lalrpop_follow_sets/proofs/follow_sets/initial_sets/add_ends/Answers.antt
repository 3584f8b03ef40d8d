use Rattle.std.proofs.Common.{◌≡◌, ◌<◌, ◌≤◌, ◌+◌, Some, arith, length, subst, sym}
use Rattle.std.specs.Prelude.{slice_get}
use Rattle.std.specs.declared.alloc.Global.{Global}
use Rattle.std.specs.declared.vec.Vec.{Vec}
use Rattle.lalrpop_base.specs.Words.{Bits}
use Rattle.lalrpop_follow_sets.specs.follow_sets.FollowWalks.{TakesBits}
use Rattle.lalrpop_follow_sets.proofs.theory.follow_sets.InitialSets.{EndBelow, ends_all, ends_here, ends_none, ends_past}
use Rattle.lalrpop_collections.proofs.theory.lists.Places.{slice_get_at}
use Rattle.lalrpop_follow_sets.proofs.follow_sets.initial_sets.add_ends.Goals as goal
use Rattle.lalrpop_follow_sets.proofs.follow_sets.initial_sets.add_ends.Goals.{then-index-pass+in_ok-insert_eof, else-index-pass}

pub loop-node-init : goal.loop-node-init
loop-node-init c = ends_none c.args.pass.now c.args.sets.now.items

pub loop-node-preserved : goal.loop-node-preserved
loop-node-preserved c =
    let pass = c.args.pass.now in
    let node = c.loop-node.node in
    let listed : node < length pass.nodes.now.pairs.items = omega (arith, c.loop-node-test.true, c.len-node-end.ensures, pass.nodes.now.pairs.ok) in
    let at : slice_get pass.nodes.now.pairs.items node ≡ Some c.index.result.now = slice_get_at pass.nodes.now.pairs.items node c.index.result.now listed c.index.ensures in
    elim c.if-index-pass.branch [
      | then-index-pass+in_ok-insert_eof w ↦
          subst (λ (sets : Vec Bits Global). TakesBits (EndBelow pass (node + 1)) c.args.sets.now.items sets.items) (sym w.sets-is)
          (ends_here pass c.requires.pass node c.args.sets.now.items c.loop-node.sets.items c.index.result.now at c.requires.counted c.loop-node.invariant
          w.if-index-pass.true w.index_mut.result.now w.insert_eof.new.self w.index_mut.ensures.value w.in_ok-insert_eof.ensures.inserted)
      | else-index-pass w ↦
          subst (λ (sets : Vec Bits Global). TakesBits (EndBelow pass (node + 1)) c.args.sets.now.items sets.items) (sym w.sets-is)
          (ends_past pass c.requires.pass node c.args.sets.now.items c.loop-node.sets.items c.index.result.now at c.requires.counted c.loop-node.invariant w.if-index-pass.false)
    ]

pub returns : goal.returns
returns c =
    let pass = c.args.pass.now in
    let all : length pass.nodes.now.pairs.items ≤ c.loop-node.node = omega (arith, c.loop-node-test.false, c.len-node-end.ensures, pass.nodes.now.pairs.ok) in
    ends_all pass c.requires.pass c.loop-node.node all c.args.sets.now.items c.loop-node.sets.items c.loop-node.invariant

use Rattle.std.proofs.Common.{◌+◌, ◌<◌, arith, length, get_or, subst, sym}
use Rattle.std.proofs.lemmas.List.Elements.{Contains-get_or}
use Rattle.lalrpop_collections.specs.lists.Spreading.{IsSent}
use Rattle.lalrpop_collections.specs.Words.{Waiting}
use Rattle.lalrpop_collections.proofs.theory.lists.Spreading.{sent_grown, sent_same}
use Rattle.lalrpop_grammar.proofs.spread.send.Goals as goal
use Rattle.lalrpop_grammar.proofs.spread.send.Goals.{then-branch+in_ok-add, else-branch}

pub join_into-requires-clause-to : goal.join_into-requires-clause-to
join_into-requires-clause-to c =
    let end : get_or c.args.ends.now c.loop-to.to-index 0 < length c.args.sets.now.items = c.requires.ends _ (Contains-get_or c.args.ends.now c.loop-to.to-index 0 c.loop-to-test.true) in
    omega (arith, end, c.loop-to.invariant.counted)

pub add-requires : goal.add-requires
add-requires c =
    let end : get_or c.args.ends.now c.loop-to.to-index 0 < length c.args.sets.now.items = c.requires.ends _ (Contains-get_or c.args.ends.now c.loop-to.to-index 0 c.loop-to-test.true) in
    omega (arith, end, c.requires.limit, c.loop-to.invariant.limit)

pub loop-to-preserved : goal.loop-to-preserved
loop-to-preserved c =
    let end : get_or c.args.ends.now c.loop-to.to-index 0 < length c.args.sets.now.items = c.requires.ends _ (Contains-get_or c.args.ends.now c.loop-to.to-index 0 c.loop-to-test.true) in
    elim c.if-branch.branch [
      | then-branch+in_ok-add w ↦
          let joined = rw w.if-branch.true at c.in_ok-join_into.ensures in
          subst (λ (after : Waiting). IsSent c.args.from c.args.ends.now (c.loop-to.to-index + 1) c.args.sets.now.items c.join_into.new.sets.items c.args.waiting.now after) (sym w.waiting-is) (sent_grown c.args.from c.args.ends.now c.loop-to-test.true end c.loop-to.invariant joined w.in_ok-add.ensures.limit w.in_ok-add.ensures.added)
      | else-branch w ↦
          let joined = rw w.if-branch.false at c.in_ok-join_into.ensures in
          subst (λ (after : Waiting). IsSent c.args.from c.args.ends.now (c.loop-to.to-index + 1) c.args.sets.now.items c.join_into.new.sets.items c.args.waiting.now after) (sym w.waiting-is) (sent_same c.args.from c.args.ends.now c.loop-to-test.true end c.loop-to.invariant joined)
    ]

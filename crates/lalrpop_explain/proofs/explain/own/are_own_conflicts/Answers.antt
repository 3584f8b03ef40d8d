use Rattle.std.proofs.Common.{refl, sym}
use Rattle.lalrpop_base.specs.Words.{productions}
use Rattle.lalrpop_collections.proofs.theory.lists.EachLemmas.{each_below_more, each_of_below}
use Rattle.lalrpop_explain.proofs.theory.explained.OwnErrors.{own_by_places}
use Rattle.lalrpop_explain.proofs.explain.own.are_own_conflicts.Goals as goal

pub returns-then-not-is_own_conflict : goal.returns-then-not-is_own_conflict
returns-then-not-is_own_conflict c = record {
  own = (
    λ h. cc,
    λ own. c.if-not-is_own_conflict.ensures.own.1 (own c.conflict-item.result (c.loop-conflict.conflict-index, c.loop-conflict-test.true, sym c.conflict-item.is)),
  );
}

pub loop-conflict-preserved : goal.loop-conflict-preserved
loop-conflict-preserved c = each_below_more _ _ _ _ c.loop-conflict-test.true c.conflict-item.is (c.if-not-is_own_conflict.ensures.own.0 refl) c.loop-conflict.invariant

pub returns : goal.returns
returns c = record {
  own = (
    λ h. own_by_places (productions c.args.grammar.now) c.args.conflicts.now (each_of_below _ _ _ c.loop-conflict-test.false c.loop-conflict.invariant),
    λ h. refl,
  );
}

use Rattle.std.proofs.Common.{List, refl, sym, subst}
use Rattle.std.specs.Prelude.{Contains}
use Rattle.lalrpop_base.specs.Words.{Bits, Dotted}
use Rattle.lalrpop_collections.proofs.theory.lists.EachLemmas.{each_below_more, each_of_below}
use Rattle.lalrpop_collections.proofs.theory.lists.Members.{place}
use Rattle.lalrpop_check.proofs.check.states.are_right_items.Goals as goal

pub loop-item-preserved : goal.loop-item-preserved
loop-item-preserved c = each_below_more _ _ _ _ c.loop-item-test.true c.item-item.is (c.if-not-is_right_item.ensures.0 refl) c.loop-item.invariant

pub returns-then-not-is_right_item : goal.returns-then-not-is_right_item
returns-then-not-is_right_item c = (
  λ h. cc,
  λ all. c.if-not-is_right_item.ensures.1 (all c.item-item.result (rw (← c.deref-item-items.ensures.value) (c.loop-item.item-index, c.loop-item-test.true, sym c.item-item.is))),
)

pub returns : goal.returns
returns c = (
  λ h i among.
      let there = subst (λ (xs : List (Dotted Bits)). Contains xs i) (sym c.deref-item-items.ensures.value) among in
      let at = place c.deref-item-items.result.now i there in
      each_of_below _ _ _ c.loop-item-test.false c.loop-item.invariant at.0 i at.2,
  λ all. refl,
)

use Rattle.lalrpop_collections.proofs.theory.lists.EachLemmas.{each_below_more, each_of_below}
use Rattle.lalrpop_tables.proofs.build_lalr.order.read_order.Goals as goal

pub loop-state-preserved : goal.loop-state-preserved
loop-state-preserved c = each_below_more _ _ _ _ c.loop-state-test.true c.state-item.is c.read_order_of.ensures c.loop-state.invariant

pub returns : goal.returns
returns c = each_of_below _ _ _ c.loop-state-test.false c.loop-state.invariant

use Rattle.std.proofs.Common.{arith, ap, length}
use Rattle.lalrpop_states.proofs.theory.states.ViewLemmas.{longest_end}
use Rattle.lalrpop_states.proofs.lr1_core.state.State.max_prefix.Goals as goal

pub returns : goal.returns
returns g c = record {
  longest = longest_end c.args.self.now.items.vec.items c.index.result.now c.prefix-best.result.now c.loop-item.best.now c.loop-item.item-index c.requires.some c.index.ensures c.prefix-best.ensures
      (omega (arith, c.loop-item-test.false, ap length c.deref-item-items.ensures.value)) c.loop-item.invariant;
}

use Rattle.std.proofs.Common.{[], List, arith, ap, subst, length, Bor}
use Rattle.std.specs.Prelude.{map, unwrap_or, Option, option_copied}
use Rattle.lalrpop_states.proofs.Types.{Symbol}
use Rattle.lalrpop_states.specs.Words.{prefix_of, moved, IsFirstShortestOrEmpty}
use Rattle.lalrpop_states.proofs.theory.states.ViewLemmas.{shortest_end}
use Rattle.lalrpop_states.proofs.lr1_core.state.State.will_pop.Goals as goal

pub returns-in-Some : goal.returns-in-Some
returns-in-Some g c =
    let items = c.args.self.now.items.vec.items in
    let whole = shortest_end prefix_of items c.loop-item.item-index (option_copied c.loop-item.best) (omega (arith, c.loop-item-test.false, ap length c.deref-item-items.ensures.value)) c.loop-item.invariant in
    record { shortest = subst (λ (o : Option (Bor (List Symbol))). IsFirstShortestOrEmpty (map prefix_of (moved items)) (unwrap_or (option_copied o) [])) c.in-Some.is whole }

pub returns-in-None : goal.returns-in-None
returns-in-None g c =
    let items = c.args.self.now.items.vec.items in
    let whole = shortest_end prefix_of items c.loop-item.item-index (option_copied c.loop-item.best) (omega (arith, c.loop-item-test.false, ap length c.deref-item-items.ensures.value)) c.loop-item.invariant in
    record { shortest = subst (λ (o : Option (Bor (List Symbol))). IsFirstShortestOrEmpty (map prefix_of (moved items)) (unwrap_or (option_copied o) [])) c.in-None.is whole }

use Rattle.std.proofs.Common.{refl, subst}
use Rattle.std.proofs.lemmas.Option.{slice_get_read}
use Rattle.lalrpop_states.proofs.Types.{State}
use Rattle.lalrpop_states.specs.Words.{IsCoherentEdge, symbol_of_ref}
use Rattle.lalrpop_collections.proofs.theory.lists.EachLemmas.{same_at}
use Rattle.lalrpop_states.proofs.lr1_core.coherent.is_coherent_step.Goals as goal

pub returns : goal.returns
returns g c =
    let edge = λ (to : State g.row.L.Denot). IsCoherentEdge c.args.source.now (symbol_of_ref c.args.symbol) to.items.vec.items in (
      λ h. record {
        to = c.index-states-target.result;
        there = slice_get_read _ _ _ _ refl c.if-target-states.false c.index-states-target.is;
        came = rw (← c.deref.ensures.value) (c.is_coherent_edge.ensures.0 h);
      },
      λ step. c.is_coherent_edge.ensures.1 (rw c.deref.ensures.value
          (subst edge (same_at c.args.states.now c.args.target.0 c.index-states-target.result step.to c.if-target-states.false c.index-states-target.is step.there) step.came)),
    )

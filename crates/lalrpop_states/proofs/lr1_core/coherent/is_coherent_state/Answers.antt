use Rattle.std.proofs.Common.{refl}
use Rattle.lalrpop_states.specs.Words.{StateEdge, IsCoherentStep}
use Rattle.lalrpop_states.proofs.theory.states.EdgeLemmas.{each_edge, each_goto, each_shift}
use Rattle.lalrpop_states.proofs.lr1_core.coherent.is_coherent_state.Goals as goal

pub returns-then-not-starts_right : goal.returns-then-not-starts_right
returns-then-not-starts_right g c =
    (λ h. cc, λ right. c.if-not-starts_right.ensures.1 (rw c.as_slice-items.ensures.value right.start))

pub returns-then-not-have_coherent_edges : goal.returns-then-not-have_coherent_edges
returns-then-not-have_coherent_edges g c = (
  λ h. cc,
  λ right. c.if-not-have_coherent_edges.ensures.1 (rw c.as_slice-items.ensures.value
      (each_edge (λ (edge : StateEdge). IsCoherentStep c.args.states.now c.args.state.now.items.vec.items edge.0 edge.1.0) c.args.state.now.shifts.entries c.args.state.now.gotos.entries right.shifts right.gotos)),
)

pub returns : goal.returns
returns g c =
    let state = c.args.state.now in
    let Came = λ (edge : StateEdge). IsCoherentStep c.args.states.now state.items.vec.items edge.0 edge.1.0 in (
      λ h. record {
        numbered = c.if-state-place.false;
        start = rw (← c.as_slice-items.ensures.value) (c.if-not-starts_right.ensures.0 refl);
        shifts = each_shift Came state.shifts.entries state.gotos.entries (rw (← c.as_slice-items.ensures.value) (c.if-not-have_coherent_edges.ensures.0 refl));
        gotos = each_goto Came state.shifts.entries state.gotos.entries (rw (← c.as_slice-items.ensures.value) (c.if-not-have_coherent_edges.ensures.0 refl));
        finished = rw (← c.as_slice-items.ensures.value, ← c.deref.ensures.value) (c.are_finished.ensures.0 h);
      },
      λ right. c.are_finished.ensures.1 (rw (c.as_slice-items.ensures.value, c.deref.ensures.value) right.finished),
    )

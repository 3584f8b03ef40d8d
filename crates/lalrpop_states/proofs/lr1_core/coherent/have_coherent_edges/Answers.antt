use Rattle.std.proofs.Common.{◌≡◌, refl}
use Rattle.lalrpop_collections.proofs.theory.lists.EachLemmas.{each_cons, each_head, each_tail}
use Rattle.lalrpop_states.specs.Words.{state_edges}
use Rattle.lalrpop_states.proofs.lr1_core.coherent.have_coherent_edges.Goals as goal

pub loop-symbol-init : goal.loop-symbol-init
loop-symbol-init g c =
    let same : c.into_iter-symbol-iterator.result ≡ state_edges c.args.state.now.shifts.entries c.args.state.now.gotos.entries = cc in
    (λ each. rw (← same) each, λ each. rw same each)

pub returns-then-not-is_coherent_step : goal.returns-then-not-is_coherent_step
returns-then-not-is_coherent_step g c =
    (λ h. cc, λ each. c.if-not-is_coherent_step.ensures.1 (each_head _ _ _ _ c.in-Some.ensures.steps (c.loop-symbol.invariant.1 each)))

pub loop-symbol-preserved : goal.loop-symbol-preserved
loop-symbol-preserved g c = (
  λ rest. c.loop-symbol.invariant.0 (each_cons _ _ _ _ c.in-Some.ensures.steps (c.if-not-is_coherent_step.ensures.0 refl) rest),
  λ each. each_tail _ _ _ _ c.in-Some.ensures.steps (c.loop-symbol.invariant.1 each),
)

pub returns : goal.returns
returns g c = (λ h. c.loop-symbol.invariant.0 (rw c.in-None.ensures.steps.0 (λ k x at. cc)), λ h. refl)

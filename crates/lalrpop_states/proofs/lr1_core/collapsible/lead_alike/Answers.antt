use Rattle.std.proofs.Common.{refl}
use Rattle.lalrpop_collections.proofs.theory.lists.EachLemmas.{each_cons, each_head, each_tail}
use Rattle.lalrpop_states.proofs.lr1_core.collapsible.lead_alike.Goals as goal

pub returns-then-not-leads_alike : goal.returns-then-not-leads_alike
returns-then-not-leads_alike g c = (λ h. cc, λ each. c.if-not-leads_alike.ensures.1 (each_head _ _ _ _ c.in-Some.ensures.steps (c.loop-key.invariant.1 each)))

pub loop-key-preserved : goal.loop-key-preserved
loop-key-preserved g c = (
  λ rest. c.loop-key.invariant.0 (each_cons _ _ _ _ c.in-Some.ensures.steps (c.if-not-leads_alike.ensures.0 refl) rest),
  λ each. each_tail _ _ _ _ c.in-Some.ensures.steps (c.loop-key.invariant.1 each),
)

pub returns : goal.returns
returns g c = (λ h. c.loop-key.invariant.0 (rw c.in-None.ensures.steps.0 (λ k x at. cc)), λ h. refl)

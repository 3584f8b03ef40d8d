use Rattle.lalrpop_states.proofs.lr1_core.collapsible.are_collapsible.Goals as goal

pub returns-then-are_coherent : goal.returns-then-are_coherent
returns-then-are_coherent g c = (
  λ h. record { coherent = c.are_coherent.ensures.0 c.if-are_coherent.true; alike = c.are_all_alike.ensures.0 h },
  λ right. c.are_all_alike.ensures.1 right.alike,
)

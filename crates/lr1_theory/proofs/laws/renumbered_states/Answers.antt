use Rattle.lr1_theory.proofs.theory.renumbering.Renumbering.{faithful-renumbered}
use Rattle.lr1_theory.proofs.laws.renumbered_states.Goals as goal

pub returns : goal.returns
returns c g start new old before after r = faithful-renumbered new old before after r g start

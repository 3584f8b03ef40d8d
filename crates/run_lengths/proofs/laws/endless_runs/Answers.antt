use Rattle.run_lengths.proofs.Endless.{alone, endless, faithful, g, states}
use Rattle.lr1_theory.proofs.theory.instances.FiveStates.{S}
use Rattle.run_lengths.proofs.laws.endless_runs.Goals as goal

pub returns : goal.returns
returns c = (g, S, states, faithful, alone, endless)

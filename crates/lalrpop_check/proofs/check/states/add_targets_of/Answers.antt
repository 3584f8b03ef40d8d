use Rattle.lr1_theory.proofs.theory.states.CheckStates.{From-more}
use Rattle.lalrpop_check.proofs.check.states.add_targets_of.Goals as goal

pub returns : goal.returns
returns c = From-more c.args.state.now _ _ _ c.in_ok-add_targets.ensures c.in_ok-add_targets-2.ensures

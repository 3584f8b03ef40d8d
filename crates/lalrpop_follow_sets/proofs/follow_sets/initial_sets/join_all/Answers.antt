use Rattle.std.proofs.Common.{◌∙◌}
use Rattle.lalrpop_follow_sets.proofs.theory.follow_sets.InitialSets.{below_all, below_more, below_none}
use Rattle.lalrpop_follow_sets.proofs.follow_sets.initial_sets.join_all.Goals as goal

pub loop-state-init : goal.loop-state-init
loop-state-init c = below_none c.args.pass.now c.args.sets.now.items

pub join_suffixes-requires-clause-counted : goal.join_suffixes-requires-clause-counted
join_suffixes-requires-clause-counted c = c.loop-state.invariant.counted ∙ c.requires.counted

pub loop-state-preserved : goal.loop-state-preserved
loop-state-preserved c = below_more c.args.pass.now c.loop-state.state c.args.sets.now.items c.loop-state.sets.items c.join_suffixes.new.sets.items c.loop-state.invariant c.in_ok-join_suffixes.ensures

pub returns : goal.returns
returns c = below_all c.args.pass.now c.requires.pass c.loop-state.state c.loop-state-test.false c.args.sets.now.items c.loop-state.sets.items c.loop-state.invariant

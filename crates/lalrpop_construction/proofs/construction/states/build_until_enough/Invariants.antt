use Rattle.std.proofs.Common.{◌-◌, length}
use Rattle.lalrpop_construction.proofs.theory.states.Universe.{kernels_limit}
use Rattle.lalrpop_base.specs.Words.{ListsAll}
use Rattle.lalrpop_construction.specs.Words.{AreEnough, AreMadeSoFar}
use Rattle.lalrpop_construction.proofs.construction.states.build_until_enough.Given as goal

abbrev pub invariant-loop-work : goal.invariant-loop-work
invariant-loop-work g l = record {
  made : AreMadeSoFar g.L.Lookahead.meaning g.L.LookaheadBuild.begins g.L.LookaheadBuild.passes l.lr.construction l.numbers.items.items l.kernels l.states.items;
  listed : ListsAll g.L.Lookahead.lists_conflicts l.lr.construction.rules.terminals l.states.items l.conflicts.items;
  few : ¬ AreEnough l.lr.stop_after (length l.conflicts.items);
}

abbrev pub decreases-loop-work : goal.decreases-loop-work
decreases-loop-work g l = kernels_limit l.lr.construction.rules - l.kernels.handed

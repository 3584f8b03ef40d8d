use Rattle.std.proofs.Common.{◌-◌}
use Rattle.lalrpop_construction.proofs.theory.states.Universe.{kernels_limit}
use Rattle.lalrpop_construction.specs.Words.{AreMadeSoFar}
use Rattle.lalrpop_construction.specs.states.NumberedStates.{AreNumberedAs}
use Rattle.lalrpop_construction.proofs.construction.states.number_all.Given as goal

abbrev pub invariant-loop-work : goal.invariant-loop-work
invariant-loop-work g l = record {
  made : AreMadeSoFar g.L.Lookahead.meaning g.L.LookaheadBuild.begins g.L.LookaheadBuild.passes l.lr.construction l.numbers.items.items l.kernels l.states.items;
  numbered : AreNumberedAs l.numbers l.states.items l.list.items;
}

abbrev pub decreases-loop-work : goal.decreases-loop-work
decreases-loop-work g l = kernels_limit l.lr.construction.rules - l.kernels.handed

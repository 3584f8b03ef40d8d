use Rattle.std.proofs.Common.{◌-◌}
use Rattle.lalrpop_base.specs.Words.{AreAllConflictFree, Begins}
use Rattle.lalrpop_states.specs.closures.Closure.{itself}
use Rattle.lalrpop_construction.specs.Words.{AreMadeSoFar}
use Rattle.lalrpop_construction.proofs.theory.closures.TokenTables.{Passes}
use Rattle.lalrpop_construction.proofs.theory.states.Universe.{kernels_limit}
use Rattle.lalrpop_construction.proofs.construction.conflict_free.build_without_conflict.Given as goal

-- states without conflicts were made so far
abbrev pub invariant-states : goal.invariant-states
invariant-states l = AreMadeSoFar itself Begins Passes l.lr.construction l.numbers.items.items l.kernels l.states.items × AreAllConflictFree l.lr.construction.rules.terminals l.states.items

abbrev pub decreases-states : goal.decreases-states
decreases-states l = kernels_limit l.lr.construction.rules - l.kernels.handed

use Rattle.std.proofs.Common.{◌≡◌, ◌-◌, List}
use Rattle.lalrpop_base.specs.Words.{Bits}
use Rattle.lalrpop_construction.proofs.theory.states.Universe.{kernels_limit}
use Rattle.lalrpop_states.specs.declared.lr1_core.state.State.{State}
use Rattle.canonical_by_number.specs.Closures.{AreFirsts}
use Rattle.canonical_by_number.specs.Conflicts.{conflict_total}
use Rattle.canonical_by_number.specs.Kernels.{AreKernelsIn}
use Rattle.canonical_by_number.specs.States.{AreMadeIn}
use Rattle.canonical_by_number.proofs.counting.count_all.Given as goal

-- states were made so far, and their conflicts were counted
abbrev pub invariant-states : goal.invariant-states
invariant-states l = record {
  firsts : AreFirsts l.numbers l.sets l.firsts;
  kernels : AreKernelsIn l.numbers l.sets l.kernels.list;
  made : (made : List (State Bits)) × AreMadeIn l.lr.construction l.numbers l.sets l.kernels made × (l.count ≡ conflict_total l.lr.construction.rules.terminals made);
}

abbrev pub decreases-states : goal.decreases-states
decreases-states l = kernels_limit l.lr.construction.rules - l.kernels.handed

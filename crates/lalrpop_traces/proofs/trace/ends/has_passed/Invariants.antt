use Rattle.std.proofs.Common.{◌≡◌, false, take, reverse}
use Rattle.lalrpop_traces.specs.Words.{path_of, comes_again}
use Rattle.lalrpop_traces.proofs.trace.ends.has_passed.Given as goal

abbrev pub invariant-loop-state : goal.invariant-loop-state
invariant-loop-state l = comes_again l.graph l.edge (path_of (reverse (take l.state-index l.path))) ≡ false

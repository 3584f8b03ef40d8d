use Rattle.std.proofs.Common.{reverse, take}
use Rattle.lalrpop_base.specs.Words.{Visits}
use Rattle.lalrpop_traces.specs.Words.{path_of}
use Rattle.lalrpop_traces.proofs.theory.traces.Ends.{AreNew}
use Rattle.lalrpop_traces.proofs.trace.ends.visit_before.Given as goal

abbrev pub invariant-loop-number : goal.invariant-loop-number
invariant-loop-number l = Visits (AreNew l.graph (path_of (reverse l.path)) (take l.number-index l.number-items)) l.fn.walk l.walk

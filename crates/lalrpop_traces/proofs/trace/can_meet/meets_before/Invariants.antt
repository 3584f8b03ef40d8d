use Rattle.std.proofs.Common.{ℕ, take}
use Rattle.std.specs.Prelude.{Contains}
use Rattle.lalrpop_traces.proofs.theory.traces.CanMeet.{NoneAt}
use Rattle.lalrpop_traces.proofs.trace.can_meet.meets_before.Given as goal

abbrev pub invariant-loop-number : goal.invariant-loop-number
invariant-loop-number l = (k : ℕ) → Contains (take l.number-index l.number-items) k → NoneAt l.graph l.first_sets l.lookahead k

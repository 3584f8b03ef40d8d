use Rattle.std.proofs.Common.{ℕ, ◌↔◌, take}
use Rattle.std.specs.Prelude.{Contains}
use Rattle.lalrpop_base.specs.Words.{IsTarget}
use Rattle.lalrpop_check.proofs.check.states.targets.Given as goal

abbrev pub invariant-loop-state : goal.invariant-loop-state
invariant-loop-state l = (m : ℕ) → Contains l.targets.keys m ↔ IsTarget (take l.state-index l.states) m

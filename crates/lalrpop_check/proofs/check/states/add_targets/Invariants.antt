use Rattle.std.proofs.Common.{ℕ, ◌↔◌, ◌⊎◌, map}
use Rattle.std.specs.Prelude.{Contains}
use Rattle.lalrpop_check.proofs.Types.{StateIndex}
use Rattle.lalrpop_check.proofs.check.states.add_targets.Given as goal

abbrev pub invariant-loop-target : goal.invariant-loop-target
invariant-loop-target g l = (m : ℕ) → (Contains l.targets.keys m ⊎ Contains (map (λ (e : g.row.K.Denot × StateIndex). e.1.0) l.target-iterator) m) ↔ (Contains l.fn.targets.keys m ⊎ Contains (map (λ (e : g.row.K.Denot × StateIndex). e.1.0) l.edges.entries) m)

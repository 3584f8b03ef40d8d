use Rattle.std.proofs.Common.{map}
use Rattle.std.specs.Prelude.{Contains}
use Rattle.lalrpop_check.proofs.Types.{StateIndex}
use Rattle.lalrpop_check.proofs.check.by_number.reached.leads_to_first.Given as goal

abbrev pub invariant-loop-target : goal.invariant-loop-target
invariant-loop-target g l = Contains (map (λ (e : g.row.K.Denot × StateIndex). e.1.0) l.edges.entries) 0 → Contains (map (λ (e : g.row.K.Denot × StateIndex). e.1.0) l.target-iterator) 0

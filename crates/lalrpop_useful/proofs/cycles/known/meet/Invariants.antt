use Rattle.std.specs.Prelude.{Contains}
use Rattle.lalrpop_useful.proofs.Types.{NonterminalString}
use Rattle.lalrpop_useful.proofs.cycles.known.meet.Given as goal

-- the names that are left are of the set
abbrev pub invariant-loop-name : goal.invariant-loop-name
invariant-loop-name l = (b : NonterminalString) → Contains l.name-iterator b → Contains l.names.keys b

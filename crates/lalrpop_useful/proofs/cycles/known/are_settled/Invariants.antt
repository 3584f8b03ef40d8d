use Rattle.std.specs.Prelude.{Contains, ◌⊎◌}
use Rattle.lalrpop_useful.proofs.Types.{NonterminalString}
use Rattle.lalrpop_useful.proofs.cycles.known.are_settled.Given as goal
use Rattle.std.proofs.Common.{◌≡◌}

-- each name so far is another one or settled, or is left
abbrev pub invariant-loop-other : goal.invariant-loop-other
invariant-loop-other l = (b : NonterminalString) → Contains l.names.keys b → Contains l.other-iterator b ⊎ ((b ≡ l.name) ⊎ Contains l.settled.keys b)

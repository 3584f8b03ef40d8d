-- Equality of the numbers of states.
use Rattle.std.proofs.Common.{ap, eq-eqb, eqb-true, false, true, ℕ, ◌==◌, ◌≡◌}
use Rattle.lalrpop_state_graph.proofs.Types.{StateIndex}

abbrev state : ℕ → StateIndex
state n = record { 0 = n }

pub same_state : (row this : StateIndex) → (row.0 == this.0) ≡ true → row ≡ this
same_state row this e = ap state (eqb-true row.0 this.0 e)

pub other_state : (row this : StateIndex) → (row.0 == this.0) ≡ false → row ≡ this → ⊥
other_state row this e same = let yes : (row.0 == this.0) ≡ true = eq-eqb row.0 this.0 (ap (λ (s : StateIndex). s.0) same) in cc

use Rattle.std.proofs.Common.{ℕ, ◌<◌}
use Rattle.packed_tables.specs.Packed.{HasActions, row_at}
use Rattle.packed_tables.proofs.check.have_actions.Given as goal

abbrev pub invariant-loop-state : goal.invariant-loop-state
invariant-loop-state l = (state : ℕ) → state < l.state → HasActions l.packed state (row_at l.actions state)

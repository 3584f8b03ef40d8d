-- The states with conflicts.
use Rattle.std.specs.Prelude.{ℕ, ◌&&◌, nat_lt, Bool, List}
use Rattle.lalrpop_base.specs.Words.{Bits}
use Rattle.lalrpop_states.specs.declared.lr1_core.state.Conflict.{Conflict}
use Rattle.table_pictures.specs.Nodes.{has_conflict}

-- whether a number is below the limit, and the state with this number has a conflict
abbrev pub is_conflict_state : ℕ → List (Conflict Bits) → ℕ → Bool
is_conflict_state limit conflicts number = nat_lt number limit && has_conflict conflicts number

use Rattle.std.proofs.Common.{ℕ, ◌<◌, slice_index}
use Rattle.packed_tables.specs.Packed.{HasAction}
use Rattle.packed_tables.proofs.check.has_actions.Given as goal

abbrev pub invariant-loop-terminal : goal.invariant-loop-terminal
invariant-loop-terminal l = (terminal : ℕ) → terminal < l.terminal → HasAction l.packed l.state terminal (slice_index l.row terminal)

use Rattle.std.proofs.Common.{◌≡◌, ◌<◌, ◌&&◌, ℕ, false, get_or, length}
use Rattle.table_pictures.specs.Nodes.{has_conflict}
use Rattle.table_pictures.proofs.to_conflicts.ends_reached.Given as goal

abbrev pub invariant-loop-number : goal.invariant-loop-number
invariant-loop-number l = record {
  counted : length l.found.items ≡ l.number;
  each : (k : ℕ) → k < l.number → get_or l.found.items k false ≡ (get_or l.reached k false && has_conflict l.conflicts k);
}

use Rattle.std.proofs.Common.{◌≡◌, ◌<◌, ◌||◌, ℕ, false, get_or, length}
use Rattle.table_pictures.proofs.near.either.Given as goal

abbrev pub invariant-loop-number : goal.invariant-loop-number
invariant-loop-number l = record {
  counted : length l.flags.items ≡ l.number;
  each : (k : ℕ) → k < l.number → get_or l.flags.items k false ≡ (get_or l.first k false || get_or l.second k false);
}

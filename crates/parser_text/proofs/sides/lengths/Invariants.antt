use Rattle.std.proofs.Common.{◌≡◌, ℕ, ◌<◌, length, slice_index}
use Rattle.parser_text.specs.Sides.{IsLength}
use Rattle.parser_text.proofs.sides.lengths.Given as goal

abbrev pub invariant-loop-production : goal.invariant-loop-production
invariant-loop-production l = record {
  long : length l.lengths.items ≡ l.production;
  each : (production : ℕ) → production < length l.lengths.items → IsLength l.table production (slice_index l.lengths.items production);
}

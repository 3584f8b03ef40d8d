use Rattle.std.proofs.Common.{◌≡◌, ℕ, ◌<◌, length, slice_index}
use Rattle.parser_text.specs.Sides.{IsLeftSide}
use Rattle.parser_text.proofs.sides.left_sides.Given as goal

abbrev pub invariant-loop-production : goal.invariant-loop-production
invariant-loop-production l = record {
  long : length l.left.items ≡ l.production;
  each : (production : ℕ) → production < length l.left.items → IsLeftSide l.table production (slice_index l.left.items production);
}

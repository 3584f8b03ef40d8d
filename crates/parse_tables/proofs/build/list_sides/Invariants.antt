use Rattle.std.proofs.Common.{◌≡◌, length}
use Rattle.parse_tables.specs.Codes.{AreSides}
use Rattle.parse_tables.proofs.build.list_sides.Given as goal

abbrev pub invariant-loop-production : goal.invariant-loop-production
invariant-loop-production l = record {
  counted : length l.sides.items ≡ l.production-index;
  sided : AreSides l.nonterminals l.production-items l.sides.items;
}

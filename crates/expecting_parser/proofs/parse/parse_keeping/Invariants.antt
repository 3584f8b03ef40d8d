use Rattle.std.proofs.Common.{◌≡◌}
use Rattle.table_parser.proofs.Lists.{IsReading}
use Rattle.expecting_parser.specs.Kept.{AreKept}
use Rattle.expecting_parser.proofs.parse.parse_keeping.Given as goal

abbrev pub invariant-loop-bit : goal.invariant-loop-bit
invariant-loop-bit g l = record {
  same : l.machine.table.now ≡ l.fn.table;
  reading : IsReading l.fn.table g.H.ParseHandler.takes l.fn.limit l.fn.handler l.yielded l.machine l.handler;
  kept : AreKept l.yielded l.kept;
}

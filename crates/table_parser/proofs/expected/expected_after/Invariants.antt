use Rattle.std.proofs.Common.{take}
use Rattle.table_parser.proofs.Following.{HasReadBits}
use Rattle.table_parser.proofs.expected.expected_after.Given as goal

abbrev pub invariant-loop-bit : goal.invariant-loop-bit
invariant-loop-bit l = HasReadBits l.table (take l.bit-index l.read) l.machine

use Rattle.std.proofs.Common.{◌≡◌, ◌++◌}
use Rattle.table_pictures.specs.Rounds.{edges_crossed, flags_after}
use Rattle.table_pictures.proofs.rounds.flags_after.Given as goal

abbrev pub invariant-loop : goal.invariant-loop
invariant-loop l = record {
  flags : l.flags.items ≡ flags_after l.edges l.fn.flags.items l.counter;
  crossed : l.crossed.items ≡ l.fn.crossed.items ++ edges_crossed l.edges l.fn.flags.items l.counter;
}

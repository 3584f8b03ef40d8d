use Rattle.std.proofs.Common.{◌≡◌, ◌++◌, drop}
use Rattle.std.specs.Prelude.{filter}
use Rattle.table_pictures.specs.Rounds.{crosses, sent_over}
use Rattle.table_pictures.proofs.rounds.next_flags.Given as goal

abbrev pub invariant-loop-edge : goal.invariant-loop-edge
invariant-loop-edge l = record {
  flags : sent_over l.flags (drop l.edge-index l.edges) l.next.items ≡ sent_over l.flags l.edges l.flags;
  crossed : l.crossed.items ++ filter (crosses l.flags) (drop l.edge-index l.edges) ≡ l.fn.crossed.items ++ filter (crosses l.flags) l.edges;
}

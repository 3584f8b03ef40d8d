use Rattle.std.proofs.Common.{◌≡◌, map, take}
use Rattle.table_pictures.specs.Paths.{turned}
use Rattle.table_pictures.proofs.rounds.turned.Given as goal

abbrev pub invariant-loop-edge : goal.invariant-loop-edge
invariant-loop-edge l = l.back.items ≡ map turned (take l.edge-index l.edges)

use Rattle.std.proofs.Common.{◌≡◌, length, take}
use Rattle.std.specs.List.{flat_map}
use Rattle.table_pictures.specs.EdgePairs.{state_pairs}
use Rattle.table_pictures.proofs.edge_pairs.edge_pairs.Given as goal

abbrev pub invariant-loop-state : goal.invariant-loop-state
invariant-loop-state l = l.pairs.items ≡ flat_map (state_pairs (length l.states)) (take l.state-index l.states)

use Rattle.std.proofs.Common.{◌≡◌, take}
use Rattle.table_pictures.specs.Graphs.{edge_count}
use Rattle.table_pictures.proofs.dot.edge_count.Given as goal

-- the number so far
abbrev pub invariant-loop-state : goal.invariant-loop-state
invariant-loop-state l = l.count ≡ edge_count (take l.state-index l.states)

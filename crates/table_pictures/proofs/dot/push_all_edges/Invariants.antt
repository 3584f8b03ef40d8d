use Rattle.std.proofs.Common.{◌≡◌, ◌++◌, string_bytes, take}
use Rattle.std.specs.List.{flat_map}
use Rattle.table_pictures.specs.Edges.{graph_edges}
use Rattle.table_pictures.proofs.dot.push_all_edges.Given as goal

abbrev pub invariant-loop-state : goal.invariant-loop-state
invariant-loop-state l = string_bytes l.text ≡ string_bytes l.fn.text ++ flat_map (graph_edges l.conflicts l.shown) (take l.state-index l.states)

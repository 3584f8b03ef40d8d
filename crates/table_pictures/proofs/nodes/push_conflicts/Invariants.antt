use Rattle.std.proofs.Common.{◌≡◌, ◌++◌, string_bytes, take}
use Rattle.std.specs.List.{flat_map}
use Rattle.table_pictures.specs.Nodes.{conflict_line}
use Rattle.table_pictures.proofs.nodes.push_conflicts.Given as goal

abbrev pub invariant-loop-conflict : goal.invariant-loop-conflict
invariant-loop-conflict l = string_bytes l.text ≡ string_bytes l.fn.text ++ flat_map (conflict_line l.terminals l.number.0) (take l.conflict-index l.conflicts)

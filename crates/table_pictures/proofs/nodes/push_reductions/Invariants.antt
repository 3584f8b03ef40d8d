use Rattle.std.proofs.Common.{◌≡◌, ◌++◌, string_bytes, take}
use Rattle.std.specs.List.{flat_map}
use Rattle.table_pictures.specs.Nodes.{reduction_line}
use Rattle.table_pictures.proofs.nodes.push_reductions.Given as goal

abbrev pub invariant-loop-reduction : goal.invariant-loop-reduction
invariant-loop-reduction l = string_bytes l.text ≡ string_bytes l.fn.text ++ flat_map (reduction_line l.terminals) (take l.reduction-index l.reductions)

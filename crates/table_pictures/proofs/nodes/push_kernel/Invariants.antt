use Rattle.std.proofs.Common.{◌≡◌, ◌++◌, string_bytes, take}
use Rattle.std.specs.List.{flat_map}
use Rattle.table_pictures.specs.Nodes.{kernel_line}
use Rattle.table_pictures.proofs.nodes.push_kernel.Given as goal

abbrev pub invariant-loop-item : goal.invariant-loop-item
invariant-loop-item l = string_bytes l.text ≡ string_bytes l.fn.text ++ flat_map (kernel_line l.start l.number.0) (take l.item-index l.items)

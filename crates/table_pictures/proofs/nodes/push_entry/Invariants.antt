use Rattle.std.proofs.Common.{◌≡◌, ◌++◌, string_bytes, drop}
use Rattle.table_pictures.specs.Nodes.{entry_xml}
use Rattle.table_pictures.proofs.nodes.push_entry.Given as goal

-- the text so far, and what the items that are left give
abbrev pub invariant-loop-item : goal.invariant-loop-item
invariant-loop-item l = string_bytes l.text ++ entry_xml (drop l.item-index l.items) ≡ string_bytes l.fn.text ++ entry_xml l.items

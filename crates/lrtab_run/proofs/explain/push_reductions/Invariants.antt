use Rattle.std.proofs.Common.{◌≡◌, ◌++◌, drop, string_bytes}
use Rattle.std.specs.List.{flat_map}
use Rattle.lrtab_run.specs.Explaining.{reduction_text}
use Rattle.lrtab_run.proofs.explain.push_reductions.Given as goal

-- the text so far, and the parts of the items that are left
abbrev pub invariant-loop-item : goal.invariant-loop-item
invariant-loop-item l = string_bytes l.text ++ flat_map reduction_text (drop l.item-index l.items) ≡ string_bytes l.fn.text ++ flat_map reduction_text l.items

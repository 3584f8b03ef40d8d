use Rattle.std.proofs.Common.{◌≡◌, ◌++◌, string_bytes}
use Rattle.std.specs.List.{flat_map}
use Rattle.conflict_causes.specs.CauseTexts.{shifting_line}
use Rattle.conflict_causes.proofs.text.lines.push_shifts.Given as goal

abbrev pub invariant-loop-item : goal.invariant-loop-item
invariant-loop-item l = string_bytes l.text ++ flat_map shifting_line l.item-iterator ≡ string_bytes l.fn.text ++ flat_map shifting_line l.items.keys

use Rattle.std.proofs.Common.{◌≡◌, ◌++◌, string_bytes}
use Rattle.std.specs.List.{flat_map}
use Rattle.conflict_causes.specs.CauseLines.{shift_choice}
use Rattle.conflict_causes.proofs.text.one_line.push_shift_choices.Given as goal

abbrev pub invariant-loop-item : goal.invariant-loop-item
invariant-loop-item l = string_bytes l.text ++ flat_map shift_choice l.item-iterator ≡ string_bytes l.fn.text ++ flat_map shift_choice l.items.keys

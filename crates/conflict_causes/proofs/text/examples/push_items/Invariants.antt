use Rattle.std.proofs.Common.{◌≡◌, ◌++◌, drop, string_bytes}
use Rattle.std.specs.List.{flat_map}
use Rattle.conflict_causes.specs.ExampleTexts.{item_examples}
use Rattle.conflict_causes.proofs.text.examples.push_items.Given as goal

-- the text so far, and the lines of the items that are left
abbrev pub invariant-loop-item : goal.invariant-loop-item
invariant-loop-item l = string_bytes l.text ++ flat_map (item_examples l.action) (drop l.item-index l.items) ≡ string_bytes l.fn.text ++ flat_map (item_examples l.action) l.items

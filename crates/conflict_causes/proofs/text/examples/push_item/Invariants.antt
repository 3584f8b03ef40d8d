use Rattle.std.proofs.Common.{◌≡◌, ◌++◌, drop, string_bytes}
use Rattle.std.specs.List.{flat_map}
use Rattle.conflict_causes.specs.ExampleTexts.{example_line}
use Rattle.conflict_causes.proofs.text.examples.push_item.Given as goal

-- the text so far, and the lines of the examples that are left
abbrev pub invariant-loop-example : goal.invariant-loop-example
invariant-loop-example l = string_bytes l.text ++ flat_map (example_line l.action) (drop l.example-index l.item.examples.items) ≡ string_bytes l.fn.text ++ flat_map (example_line l.action) l.item.examples.items

use Rattle.std.proofs.Common.{◌≡◌, ◌++◌, drop, string_bytes}
use Rattle.std.specs.List.{flat_map}
use Rattle.lrtab_run.specs.Explaining.{example_line}
use Rattle.lrtab_run.proofs.explain.push_examples.Given as goal

-- the text so far, and the lines of the examples that are left
abbrev pub invariant-loop-example : goal.invariant-loop-example
invariant-loop-example l = string_bytes l.text ++ flat_map example_line (drop l.example-index l.examples) ≡ string_bytes l.fn.text ++ flat_map example_line l.examples

use Rattle.std.proofs.Common.{◌≡◌, ◌++◌, string_bytes}
use Rattle.std.specs.List.{flat_map}
use Rattle.table_pictures.specs.Edges.{shown_goto}
use Rattle.table_pictures.proofs.edges.push_gotos.Given as goal

abbrev pub invariant-loop-target : goal.invariant-loop-target
invariant-loop-target l = string_bytes l.text ++ flat_map (shown_goto l.shown l.from.0) l.target-iterator ≡ string_bytes l.fn.text ++ flat_map (shown_goto l.shown l.from.0) l.gotos.entries

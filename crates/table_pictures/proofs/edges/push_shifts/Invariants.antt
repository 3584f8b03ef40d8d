use Rattle.std.proofs.Common.{◌≡◌, ◌++◌, string_bytes}
use Rattle.std.specs.List.{flat_map}
use Rattle.table_pictures.specs.Edges.{shown_shift}
use Rattle.table_pictures.proofs.edges.push_shifts.Given as goal

abbrev pub invariant-loop-terminal : goal.invariant-loop-terminal
invariant-loop-terminal l = string_bytes l.text ++ flat_map (shown_shift l.conflicts l.shown l.from.0) l.terminal-iterator ≡ string_bytes l.fn.text ++ flat_map (shown_shift l.conflicts l.shown l.from.0) l.shifts.entries

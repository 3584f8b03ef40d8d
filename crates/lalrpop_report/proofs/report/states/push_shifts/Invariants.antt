use Rattle.std.proofs.Common.{◌≡◌, ◌++◌, string_bytes}
use Rattle.std.specs.List.{flat_map}
use Rattle.lalrpop_report.specs.Words.{shift_line}
use Rattle.lalrpop_report.proofs.report.states.push_shifts.Given as goal

abbrev pub invariant-loop-terminal : goal.invariant-loop-terminal
invariant-loop-terminal l =
    string_bytes l.text ++ flat_map (shift_line l.width) l.terminal-iterator ≡ string_bytes l.fn.text ++ flat_map (shift_line l.width) l.shifts.entries

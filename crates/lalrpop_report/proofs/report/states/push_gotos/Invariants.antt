use Rattle.std.proofs.Common.{◌≡◌, ◌++◌, string_bytes}
use Rattle.std.specs.List.{flat_map}
use Rattle.lalrpop_report.specs.Words.{goto_line}
use Rattle.lalrpop_report.proofs.report.states.push_gotos.Given as goal

abbrev pub invariant-loop-nonterminal : goal.invariant-loop-nonterminal
invariant-loop-nonterminal l =
    string_bytes l.text ++ flat_map (goto_line l.width) l.nonterminal-iterator ≡ string_bytes l.fn.text ++ flat_map (goto_line l.width) l.gotos.entries

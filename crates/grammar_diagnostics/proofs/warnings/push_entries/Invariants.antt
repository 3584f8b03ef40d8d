use Rattle.std.proofs.Common.{◌≡◌, ◌++◌, map}
use Rattle.std.specs.List.{flat_map}
use Rattle.lalrpop_grammar.specs.Words.{productions}
use Rattle.grammar_diagnostics.specs.Warnings.{entry_warnings, warning_view}
use Rattle.grammar_diagnostics.proofs.warnings.push_entries.Given as goal

-- the warnings so far, and those of the entries that are left
abbrev pub invariant-loop-name : goal.invariant-loop-name
invariant-loop-name l =
    map warning_view l.all.items ++ flat_map (entry_warnings l.sets (productions l.grammar)) l.name-iterator
    ≡ map warning_view l.initial.all.items ++ flat_map (entry_warnings l.sets (productions l.grammar)) l.grammar.nonterminals.entries

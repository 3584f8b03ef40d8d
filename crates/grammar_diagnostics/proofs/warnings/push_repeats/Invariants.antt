use Rattle.std.proofs.Common.{◌≡◌, ◌++◌, map, drop}
use Rattle.grammar_diagnostics.specs.Warnings.{repeat_warning, warning_view}
use Rattle.grammar_diagnostics.proofs.warnings.push_repeats.Given as goal

-- the warnings so far, and those that are left
abbrev pub invariant-loop-found : goal.invariant-loop-found
invariant-loop-found l = map warning_view l.all.items ++ map repeat_warning (drop l.found-index l.repeats) ≡ map warning_view l.initial.all.items ++ map repeat_warning l.repeats

use Rattle.std.proofs.Common.{◌≡◌, drop}
use Rattle.std.specs.Prelude.{find}
use Rattle.grammar_diagnostics.specs.Warnings.{has_use}
use Rattle.grammar_diagnostics.proofs.tests.first_of.Given as goal

-- the first use is one of the productions that are left
abbrev pub invariant-loop-production : goal.invariant-loop-production
invariant-loop-production l = find (has_use l.name) (drop l.production-index l.productions) ≡ find (has_use l.name) l.productions

use Rattle.std.proofs.Common.{◌≡◌}
use Rattle.std.specs.Prelude.{find}
use Rattle.std.specs.List.{flat_map}
use Rattle.lalrpop_grammar.specs.Words.{productions}
use Rattle.lalrpop_grammar.specs.declared.repr.NonterminalString.{NonterminalString}
use Rattle.lalrpop_grammar.specs.declared.repr.grammar.NonterminalData.{NonterminalData}
use Rattle.grammar_diagnostics.specs.Warnings.{has_use}
use Rattle.grammar_diagnostics.proofs.tests.first_use.Given as goal

-- the first use is one of the entries that are left
abbrev pub invariant-loop-name : goal.invariant-loop-name
invariant-loop-name l = find (has_use l.name) (flat_map (λ (e : NonterminalString × NonterminalData). e.1.productions.items) l._name-iterator) ≡ find (has_use l.name) (productions l.grammar)

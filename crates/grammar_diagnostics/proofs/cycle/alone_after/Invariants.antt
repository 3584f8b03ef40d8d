use Rattle.lalrpop_grammar.specs.Words.{productions}
use Rattle.lalrpop_grammar.specs.declared.repr.NonterminalString.{NonterminalString}
use Rattle.std.specs.Prelude.{Contains}
use Rattle.lalrpop_useful.specs.Words.{IsAloneOn}
use Rattle.grammar_diagnostics.specs.CyclePaths.{names_now}
use Rattle.grammar_diagnostics.proofs.cycle.alone_after.Given as goal

-- the names so far are alone on right sides of the productions
abbrev pub invariant-loop-production : goal.invariant-loop-production
invariant-loop-production l = (b : NonterminalString) → Contains (names_now l.names.items) b → IsAloneOn (productions l.grammar) l.productions b

-- The results of a construction of LR(1) tables that counts conflicts and lists none: tables, or
-- the number of the canonical conflicts (Knuth 1965).
use Rattle.std.specs.Prelude.{ℕ}
use Rattle.lalrpop_grammar.specs.declared.repr.NonterminalString.{NonterminalString}
use Rattle.lalrpop_grammar.specs.declared.repr.grammar.Grammar.{Grammar}
use Rattle.lalrpop_tables.specs.answers.Lr1Answers.{AreBuiltTablesOf, AreTablesOf}
use Rattle.lalrpop_construction.specs.canonical.CanonicalAnswers.{IsConflictCount, MatchTablesOrCount}
use Rattle.lalrpop_construction.specs.declared.options.Method.{Method}
use Rattle.lalrpop_construction.specs.declared.construction.tables_or_count.TablesOrCount.{TablesOrCount}

-- tables of a grammar by the method, under the numbers of tables, with at most so many copies; or
-- the number of its canonical conflicts
abbrev pub AreTablesOrCount : Method → ℕ → Grammar → NonterminalString → TablesOrCount → Type 0
AreTablesOrCount method copies g start = MatchTablesOrCount (AreTablesOf ⊥ method copies g start) (IsConflictCount g start)

-- tables of a grammar by the method, under the numbers of their construction, with at most so many
-- copies; or the number of its canonical conflicts
abbrev pub AreBuiltTablesOrCount : Method → ℕ → Grammar → NonterminalString → TablesOrCount → Type 0
AreBuiltTablesOrCount method copies g start = MatchTablesOrCount (AreBuiltTablesOf ⊥ method copies g start) (IsConflictCount g start)

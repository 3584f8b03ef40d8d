-- Tables, or the number of conflicts: the results if conflicts are counted, by either method, and
-- under other numbers.
use Rattle.std.proofs.Common.{◌≡◌, ℕ, List}
use Rattle.lalrpop_base.specs.Words.{Bits, IsLALR1, IsOnNoRightSide, productions, rules_of}
use Rattle.lalrpop_tables.proofs.Types.{Grammar, NonterminalString, State}
use Rattle.lalrpop_tables.specs.Words.{AreBuiltTablesOrCount}
use Rattle.lalrpop_construction.specs.Words.{AreCanonicalTablesOrCount}
use Rattle.lalrpop_lane_states.specs.Words.{AreLaneTables}
use Rattle.lalrpop_construction.specs.declared.options.Method.{Method}
use Rattle.lalrpop_construction.specs.declared.options.Method.TheVariants.{Lane}
use Rattle.lalrpop_construction.specs.declared.construction.tables_or_count.TablesOrCount.{TablesOrCount}
use Rattle.lalrpop_construction.specs.declared.construction.tables_or_count.TablesOrCount.TheVariants.{Tables, Conflicts}
use Rattle.lalrpop_tables.proofs.theory.answers.Lr1Answers.{Fallback-answer}

-- the result of the canonical construction is one by either method; by the lane method only if
-- there are no lane tables of an LALR(1) grammar
pub Fallback-or-count : (g : Grammar) (start : NonterminalString) (method : Method) (copies : ℕ) → ((tables : List (State Bits)) → method ≡ Lane → IsOnNoRightSide (productions g) start → IsLALR1 (productions g) start → AreLaneTables (rules_of g) start tables) →
    (answer : TablesOrCount) → AreCanonicalTablesOrCount g start answer → AreBuiltTablesOrCount method copies g start answer
Fallback-or-count g start method copies none (Tables tables) t = Fallback-answer g start tables.items method copies (none tables.items) t
Fallback-or-count g start method copies none (Conflicts n) counted = counted

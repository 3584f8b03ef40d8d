use Rattle.std.proofs.Common.{◌≡◌, List, subst, sym}
use Rattle.std.specs.Prelude.{IfOk}
use Rattle.std.proofs.lemmas.Result.{IfOk-weaker}
use Rattle.lalrpop_base.specs.Words.{Bits, IsLALR1, IsOnNoRightSide, productions, rules_of}
use Rattle.lalrpop_tables.proofs.Types.{NonterminalString, State}
use Rattle.lalrpop_construction.specs.Words.{AreCanonicalTablesOrCount, lr0_of}
use Rattle.lalrpop_lane_states.specs.Words.{AreLaneTables}
use Rattle.lalrpop_construction.specs.declared.options.Method.TheVariants.{Lane}
use Rattle.lalrpop_tables.proofs.theory.answers.ByLanes.{if_told, not_there}
use Rattle.lalrpop_tables.proofs.theory.answers.TablesOrCount.{Fallback-or-count}
use Rattle.lalrpop_tables.proofs.build.lr1_states_or_count.Goals as goal

pub returns-in-Some : goal.returns-in-Some
returns-in-Some c = record { answer = if_told _ c.in-Some.tables _ c.in-Some.is c.in_ok-by_lanes.ensures.tables }

pub returns : goal.returns
returns c =
    let g = c.args.grammar.now in
    let start = c.args.start in
    let method = c.args.options.now.method in
    -- there were no lane tables, so the grammar is not LALR(1)
    let none : (tables : List (State Bits)) → method ≡ Lane → IsOnNoRightSide (productions g) start → IsLALR1 (productions g) start → AreLaneTables (rules_of g) start tables = λ tables lane alone lalr. absurd (not_there _ c.in_default.is (c.in_ok-by_lanes.ensures.lalr lane alone lalr)) in
    let made = subst (λ (s : NonterminalString). IfOk c.canonical_states_or_count.result (AreCanonicalTablesOrCount g s)) c.in_ok-counted.ensures c.canonical_states_or_count.ensures in
    record { answer = IfOk-weaker c.canonical_states_or_count.result _ _ (Fallback-or-count g start method c.args.options.now.max_copies none) made }

pub canonical_states_or_count-requires-clause-over : goal.canonical_states_or_count-requires-clause-over
canonical_states_or_count-requires-clause-over c = subst (λ (s : NonterminalString). c.in_ok-by_lanes.lr.construction ≡ lr0_of c.args.grammar.now s) (sym c.in_ok-counted.ensures) c.in_ok-by_lanes.ensures.over

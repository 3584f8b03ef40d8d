use Rattle.lalrpop_base.specs.Words.{rules_of}
use Rattle.lalrpop_lane_states.specs.Words.{AreCopiedTables, AreLaneTables}
use Rattle.lalrpop_tables.proofs.theory.answers.ByLanes.{Kept-said, Lanes-pass, Passing-said, and_told, if_told, nothing_told, there_told}
use Rattle.lalrpop_tables.proofs.build.by_lanes.lane_tables.Goals as goal

-- ---- tables that were checked
pub returns-clause-copied : goal.returns-clause-copied
returns-clause-copied c =
    let of = c.args.construct.now in
    let tables = c.in-Some.tables.items in
    let copied = there_told c.in_ok-tables.field-0 (c.in-Some.tables, c.in-Some.at_once) _ _ c.in-Some.is c.in_ok-tables.ensures.tables in
    Kept-said (λ tables. tables.items) tables (AreCopiedTables (rules_of of.grammar.now) of.start of.max_copies) copied c.where_checked.result c.where_checked.ensures.kept

pub returns-clause-lalr : goal.returns-clause-lalr
returns-clause-lalr c alone lalr =
    let of = c.args.construct.now in
    let tables = c.in-Some.tables.items in
    let told = and_told c.in_ok-tables.field-0 (c.in-Some.tables, c.in-Some.at_once) _ c.in-Some.is (c.in_ok-tables.ensures.lalr alone lalr) in
    let passing = c.where_checked.ensures.passing (Lanes-pass of.grammar.now of.start tables told) in
    Passing-said (λ tables. tables.items) tables (AreLaneTables (rules_of of.grammar.now) of.start) told.lanes c.where_checked.result passing c.where_checked.ensures.kept

-- ---- tables that were made at once
pub returns-then-is_on_no_right_side : goal.returns-then-is_on_no_right_side
returns-then-is_on_no_right_side c =
    let told = c.in_ok-tables.ensures in
    let alone = c.is_on_no_right_side.ensures.0 c.if-is_on_no_right_side.true in
    let lalr = if_told c.in_ok-tables.field-0 (c.in-Some.tables, c.in-Some.at_once) _ c.in-Some.is told.at_once c.if-at_once.true alone in
    record {
      copied = there_told c.in_ok-tables.field-0 (c.in-Some.tables, c.in-Some.at_once) _ _ c.in-Some.is told.tables;
      faithful = lalr.faithful;
      lalr = λ _ _. lalr.lanes;
    }

-- ---- no tables
pub returns-in_default-clause-lalr : goal.returns-in_default-clause-lalr
returns-in_default-clause-lalr c alone lalr = absurd (nothing_told c.in_ok-tables.field-0 _ c.in_default.is (c.in_ok-tables.ensures.lalr alone lalr))

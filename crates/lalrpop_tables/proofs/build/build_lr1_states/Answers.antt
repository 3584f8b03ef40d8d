use Rattle.std.proofs.Common.{◌≡◌, List, ap, subst, sym}
use Rattle.std.specs.Prelude.{IfErr, IfOk}
use Rattle.std.proofs.lemmas.Result.{IfErr-weaker, IfOk-weaker}
use Rattle.lalrpop_base.specs.Words.{Bits, IsLALR1, IsOnNoRightSide, productions, rules_of}
use Rattle.lalrpop_construction.specs.Words.{Construction, lr0_of}
use Rattle.lalrpop_tables.proofs.Types.{Nil, State}
use Rattle.lalrpop_construction.specs.Words.{AreCanonicalTables, FailsByConflicts}
use Rattle.lalrpop_lane_states.specs.Words.{AreLaneTables}
use Rattle.lalrpop_construction.specs.declared.options.Method.TheVariants.{Lane}
use Rattle.lalrpop_tables.proofs.theory.answers.ByLanes.{if_told, not_there}
use Rattle.lalrpop_tables.proofs.theory.answers.Lr1Answers.{Canonical-fails, Fallback-answer}
use Rattle.lalrpop_tables.proofs.build.build_lr1_states.Goals as goal

pub returns-in-Some-clause-tables : goal.returns-in-Some-clause-tables
returns-in-Some-clause-tables c = if_told _ c.in-Some.tables _ c.in-Some.is c.in_ok-by_lanes.ensures.tables

pub returns-clause-tables : goal.returns-clause-tables
returns-clause-tables c =
    let g = c.args.grammar.now in
    let start = c.args.start in
    let method = c.args.options.now.method in
    -- there were no lane tables, so the grammar is not LALR(1)
    let none : (tables : List (State Bits)) → method ≡ Lane → IsOnNoRightSide (productions g) start → IsLALR1 (productions g) start → AreLaneTables (rules_of g) start tables = λ tables lane alone lalr. absurd (not_there _ c.in_default.is (c.in_ok-by_lanes.ensures.lalr lane alone lalr)) in
    let made = subst (λ start. IfOk c.build_canonical_states.result (λ tables. AreCanonicalTables g start tables.items)) (ap (λ (k : Construction Nil). k.start) c.in_ok-by_lanes.ensures.over) c.build_canonical_states.ensures.tables in
    IfOk-weaker c.build_canonical_states.result _ _ (λ tables t. Fallback-answer g start tables.items method c.args.options.now.max_copies (none tables.items) t) made

pub returns-clause-no_tables : goal.returns-clause-no_tables
returns-clause-no_tables c =
    let g = c.args.grammar.now in
    let stop = c.args.options.now.stop_after in
    let made = subst (λ start. IfErr c.build_canonical_states.result (FailsByConflicts stop g start)) (ap (λ (k : Construction Nil). k.start) c.in_ok-by_lanes.ensures.over) c.build_canonical_states.ensures.no_tables in
    IfErr-weaker c.build_canonical_states.result _ _ (Canonical-fails g c.args.start stop) made

pub build_canonical_states-requires : goal.build_canonical_states-requires
build_canonical_states-requires c = subst (λ start. c.in_ok-by_lanes.lr.construction ≡ lr0_of c.args.grammar.now start) (sym (ap (λ (k : Construction Nil). k.start) c.in_ok-by_lanes.ensures.over)) c.in_ok-by_lanes.ensures.over

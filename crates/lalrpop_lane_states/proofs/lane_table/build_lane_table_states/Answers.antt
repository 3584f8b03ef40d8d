use Rattle.std.proofs.Common.{ℕ, subst}
use Rattle.std.specs.Prelude.{IfErr, IfOk, MatchResult}
use Rattle.lalrpop_base.specs.Words.{IsLALR1, IsOnNoRightSide, productions, rules_of}
use Rattle.lalrpop_lane_states.proofs.Types.{Grammar, NonterminalString}
use Rattle.lalrpop_base.specs.Words.{TellsNotLALR1}
use Rattle.lalrpop_lane_states.specs.Words.{AreLalrLaneTables, AreCopiedTables, FailsByCopies}
use Rattle.lalrpop_lane_states.proofs.lane_table.build_lane_table_states.Goals as goal

pub returns-clause-tables : goal.returns-clause-tables
returns-clause-tables c =
    let Told : Grammar → NonterminalString → ℕ → Type 0 = λ g start copies. IfOk c.construct.result (λ tables. AreCopiedTables (rules_of g) start copies tables.items) in
    let of = c.in_ok-construct.construct in
    let over = c.in_ok-construct.ensures.over in
    subst (λ g. Told g c.args.start c.args.max_copies) over.0 (subst (λ start. Told of.grammar.now start c.args.max_copies) over.1 (subst (Told of.grammar.now of.start) over.2 c.construct.ensures.tables))

pub returns-clause-failure : goal.returns-clause-failure
returns-clause-failure c =
    let Told : Grammar → NonterminalString → ℕ → Type 0 = λ g start copies. IfErr c.construct.result (FailsByCopies (rules_of g) start copies) in
    let of = c.in_ok-construct.construct in
    let over = c.in_ok-construct.ensures.over in
    subst (λ g. Told g c.args.start c.args.max_copies) over.0 (subst (λ start. Told of.grammar.now start c.args.max_copies) over.1 (subst (Told of.grammar.now of.start) over.2 c.construct.ensures.failure))

pub returns-clause-lalr : goal.returns-clause-lalr
returns-clause-lalr c =
    let Told : Grammar → NonterminalString → Type 0 = λ g start. IsOnNoRightSide (productions g) start → MatchResult c.construct.result (λ tables. IsLALR1 (productions g) start → AreLalrLaneTables (rules_of g) start tables.items) (TellsNotLALR1 (productions g) start) in
    let of = c.in_ok-construct.construct in
    let over = c.in_ok-construct.ensures.over in
    subst (λ g. Told g c.args.start) over.0 (subst (Told of.grammar.now) over.1 c.construct.ensures.lalr)

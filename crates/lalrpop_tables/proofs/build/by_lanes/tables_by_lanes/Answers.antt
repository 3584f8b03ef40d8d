use Rattle.std.proofs.Common.{◌≡◌, ℕ, true, subst}
use Rattle.std.specs.Prelude.{IfSome, is_some}
use Rattle.std.specs.declared.result.Result.TheVariants.{Ok}
use Rattle.lalrpop_base.specs.Words.{IsLALR1, IsOnNoRightSide, productions}
use Rattle.lalrpop_construction.specs.Words.{lr0_of}
use Rattle.lalrpop_construction.specs.declared.options.Method.TheVariants.{Lane}
use Rattle.lalrpop_tables.proofs.Types.{Grammar, NonterminalString}
use Rattle.lalrpop_tables.specs.Words.{AreBuiltTablesOf}
use Rattle.lalrpop_tables.proofs.theory.answers.ByLanes.{Lanes-answer, Lanes-there, said_of}
use Rattle.lalrpop_tables.proofs.build.by_lanes.tables_by_lanes.Goals as goal

pub returns-clause-tables : goal.returns-clause-tables
returns-clause-tables c =
    let of = c.in_ok-construct.construct in
    let over = c.in_ok-construct.ensures.over in
    let says = c.in_ok-tables.ensures in
    let made = Lanes-answer {E = Unit {0}} (λ tables. tables.items) of.grammar.now of.start of.max_copies (Ok c.in_ok-tables.tables) says.copied says.faithful says.lalr in
    let Told : ℕ → Grammar → NonterminalString → Type 0 = λ copies g start. IfSome c.in_ok-tables.tables (λ tables. AreBuiltTablesOf ⊥ Lane copies g start tables.items) in
    said_of (Told c.args.max_copies) of.grammar.now c.args.grammar.now of.start c.args.start over.0 over.1 (subst (λ copies. Told copies of.grammar.now of.start) over.2 made)

pub returns-clause-lalr : goal.returns-clause-lalr
returns-clause-lalr c =
    let of = c.in_ok-construct.construct in
    let over = c.in_ok-construct.ensures.over in
    let Told : Grammar → NonterminalString → Type 0 = λ g start. IsOnNoRightSide (productions g) start → IsLALR1 (productions g) start → is_some c.in_ok-tables.tables ≡ true in
    said_of Told of.grammar.now c.args.grammar.now of.start c.args.start over.0 over.1 (λ alone lalr. Lanes-there {E = Unit {0}} (Ok c.in_ok-tables.tables) _ (c.in_ok-tables.ensures.lalr alone lalr))

pub returns-clause-over : goal.returns-clause-over
returns-clause-over c =
    let of = c.in_ok-construct.construct in
    let over = c.in_ok-construct.ensures.over in
    said_of (λ g start. of.lr.construction ≡ lr0_of g start) of.grammar.now c.args.grammar.now of.start c.args.start over.0 over.1 c.in_ok-construct.ensures.ready.over

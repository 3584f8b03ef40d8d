use Rattle.std.proofs.Common.{◌≡◌, ap, subst, ◌∙◌, Ok, Err}
use Rattle.lalrpop_base.specs.Words.{IsOnNoRightSide, IsFirstWrong, productions}
use Rattle.lalrpop_lr1.proofs.Types.{Grammar, NonterminalString}
use Rattle.lalrpop_tables.specs.Words.{Collapses, HasConflictsOf}
use Rattle.lalrpop_lr1.specs.Words.{Augmented, IsAboveOld, IsAccepted, IsOutcomeByTables, HadTables, HadTablesWhere, IfParseConflicts, IfRefusedAt, TellsTrees}
use Rattle.lalrpop_parser.specs.Words.{IsTreeWithin, tree_of}
use Rattle.lalrpop_lr1.proofs.theory.runs.AnyStart.{carried, is_alone, has_child, child_below, child_told, error_told, refused_old, run_of_child, run_of_error}
use Rattle.lalrpop_lr1.proofs.headline.any_start.parse_from_any.Goals as goal

-- what holds of the grammar and the start symbol of the parse holds under the names of the clauses
of_value : (P : Grammar → NonterminalString → Type 0) (a b : Augmented) (f : NonterminalString) → a ≡ b → f ≡ a.start → P a.grammar f → P b.grammar b.start
of_value P a b f seen copied = carried P (ap (λ (x : Augmented). x.grammar) seen) (copied ∙ ap (λ (x : Augmented). x.start) seen)

pub only_child-requires : goal.only_child-requires
only_child-requires c =
    let a = c.args.augmented.now in
    let o = subst IsAboveOld c.augmented.view_is c.augmented.invariant in
    let told = of_value (λ g f. IsOnNoRightSide (productions g) f → IsTreeWithin c.args.limit c.args.tokens.items (tree_of c.in-Ok-parse.tree) (productions g) f) _ a c.in-Ok.start c.augmented.view_is c.in-Ok.ensures c.in-Ok-parse.ensures.parses in
    has_child a.old_productions (productions a.grammar) a.old_start a.start o.augmented c.args.tokens.items c.args.limit (tree_of c.in-Ok-parse.tree) told

pub returns-in-Ok-parse-clause-run : goal.returns-in-Ok-parse-clause-run
returns-in-Ok-parse-clause-run c had =
    let a = c.args.augmented.now in
    let o = subst IsAboveOld c.augmented.view_is c.augmented.invariant in
    let told = of_value (λ g f. IsOnNoRightSide (productions g) f → IsTreeWithin c.args.limit c.args.tokens.items (tree_of c.in-Ok-parse.tree) (productions g) f) _ a c.in-Ok.start c.augmented.view_is c.in-Ok.ensures c.in-Ok-parse.ensures.parses in
    let run = of_value (λ g f. HadTables (Ok c.in-Ok-parse.tree) → IsOutcomeByTables g c.args.options.now f c.args.tokens.items c.args.limit (Ok c.in-Ok-parse.tree)) _ a c.in-Ok.start c.augmented.view_is c.in-Ok.ensures c.in-Ok-parse.ensures.run in
    let below = child_below a.old_productions (productions a.grammar) a.old_start a.start o.augmented c.args.tokens.items c.args.limit c.in-Ok-parse.tree c.only_child.result c.only_child.ensures told in
    run_of_child a.grammar c.args.options.now a.start c.args.tokens.items c.args.limit (is_alone a.old_productions (productions a.grammar) a.old_start a.start o.augmented c.args.tokens.items c.args.limit) c.in-Ok-parse.tree c.only_child.result below.0 (run tt)

pub returns-in-Ok-parse-clause-parses : goal.returns-in-Ok-parse-clause-parses
returns-in-Ok-parse-clause-parses c =
    let a = c.args.augmented.now in
    let o = subst IsAboveOld c.augmented.view_is c.augmented.invariant in
    let told = of_value (λ g f. IsOnNoRightSide (productions g) f → IsTreeWithin c.args.limit c.args.tokens.items (tree_of c.in-Ok-parse.tree) (productions g) f) _ a c.in-Ok.start c.augmented.view_is c.in-Ok.ensures c.in-Ok-parse.ensures.parses in
    (child_below a.old_productions (productions a.grammar) a.old_start a.start o.augmented c.args.tokens.items c.args.limit c.in-Ok-parse.tree c.only_child.result c.only_child.ensures told).1

pub returns-in-Ok-parse-clause-one_tree : goal.returns-in-Ok-parse-clause-one_tree
returns-in-Ok-parse-clause-one_tree c =
    let a = c.args.augmented.now in
    let o = subst IsAboveOld c.augmented.view_is c.augmented.invariant in
    let told = of_value (λ g f. IsOnNoRightSide (productions g) f → TellsTrees c.args.limit c.args.tokens.items (Ok c.in-Ok-parse.tree) (productions g) f) _ a c.in-Ok.start c.augmented.view_is c.in-Ok.ensures c.in-Ok-parse.ensures.one_tree in
    child_told a.old_productions (productions a.grammar) a.old_start a.start o.augmented c.args.tokens.items c.args.limit c.in-Ok-parse.tree c.only_child.result c.only_child.ensures (told (is_alone a.old_productions (productions a.grammar) a.old_start a.start o.augmented c.args.tokens.items c.args.limit))

pub returns-in-Err-clause-run : goal.returns-in-Err-clause-run
returns-in-Err-clause-run c had =
    let a = c.args.augmented.now in
    let o = subst IsAboveOld c.augmented.view_is c.augmented.invariant in
    let run = of_value (λ g f. HadTables (Err c.in-Err.error) → IsOutcomeByTables g c.args.options.now f c.args.tokens.items c.args.limit (Err c.in-Err.error)) _ a c.in-Ok.start c.augmented.view_is c.in-Ok.ensures c.in-Err.ensures.run in
    run_of_error a.grammar c.args.options.now a.start c.args.tokens.items c.args.limit (is_alone a.old_productions (productions a.grammar) a.old_start a.start o.augmented c.args.tokens.items c.args.limit) c.in-Err.error (run had)

pub returns-in-Err-clause-one_tree : goal.returns-in-Err-clause-one_tree
returns-in-Err-clause-one_tree c =
    let a = c.args.augmented.now in
    let o = subst IsAboveOld c.augmented.view_is c.augmented.invariant in
    let told = of_value (λ g f. IsOnNoRightSide (productions g) f → TellsTrees c.args.limit c.args.tokens.items (Err c.in-Err.error) (productions g) f) _ a c.in-Ok.start c.augmented.view_is c.in-Ok.ensures c.in-Err.ensures.one_tree in
    error_told a.old_productions (productions a.grammar) a.old_start a.start o.augmented c.args.tokens.items c.args.limit c.in-Err.error (told (is_alone a.old_productions (productions a.grammar) a.old_start a.start o.augmented c.args.tokens.items c.args.limit))

pub returns-in-Err-clause-refuses : goal.returns-in-Err-clause-refuses
returns-in-Err-clause-refuses c =
    let a = c.args.augmented.now in
    let o = subst IsAboveOld c.augmented.view_is c.augmented.invariant in
    let told = of_value (λ g f. IfRefusedAt (λ token. IsOnNoRightSide (productions g) f → IsFirstWrong (productions g) f c.args.tokens.items token) c.in-Err.error) _ a c.in-Ok.start c.augmented.view_is c.in-Ok.ensures c.in-Err.ensures.refuses in
    refused_old a.old_productions (productions a.grammar) a.old_start a.start o.augmented c.args.tokens.items c.args.limit c.in-Err.error told

pub returns-in-Err-clause-decides : goal.returns-in-Err-clause-decides
returns-in-Err-clause-decides c =
    of_value (λ g f. HadTablesWhere (IsAccepted (Collapses g c.args.options.now) g f) (Err c.in-Err.error)) _ c.args.augmented.now c.in-Ok.start c.augmented.view_is c.in-Ok.ensures c.in-Err.ensures.decides

pub returns-in-Err-clause-conflicts : goal.returns-in-Err-clause-conflicts
returns-in-Err-clause-conflicts c =
    of_value (λ g f. IfParseConflicts (HasConflictsOf (Collapses g c.args.options.now) c.args.options.now.stop_after g f) c.in-Err.error) _ c.args.augmented.now c.in-Ok.start c.augmented.view_is c.in-Ok.ensures c.in-Err.ensures.conflicts

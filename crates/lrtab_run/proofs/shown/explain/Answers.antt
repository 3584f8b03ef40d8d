use Rattle.std.proofs.Common.{refl, inl, inr, rules}
use Rattle.lalrpop_lr1.proofs.theory.explained.OwnErrors.{own_error}
use Rattle.lalrpop_tables.proofs.theory.answers.NotCollapsed.{plain_tables, plain_conflicts}
use Rattle.lrtab_run.proofs.shown.explain.Goals as goal

pub returns-in-Ok : goal.returns-in-Ok
returns-in-Ok c =
    let tables = plain_tables c.args.grammar.now c.args.options.now c.requires.canonical c.args.start c.in-Ok.field-0.items c.in-Ok.ensures.tables in
    inl (record { states = c.in-Ok.field-0.items; tables = tables; ended = refl; shown = search (rules, c.in_ok-from_str-in-Ok.ensures.ok) })

pub explanation-requires-clause-own : goal.explanation-requires-clause-own
explanation-requires-clause-own c =
    let f = plain_conflicts c.args.grammar.now c.args.options.now c.requires.canonical c.args.start c.requires.whole c.in-Err-Conflicts.error (rw c.in-Err-Conflicts.field-0-is at c.in-Err-Conflicts.ensures.no_tables) in
    own_error c.args.grammar.now c.args.start c.in-Err-Conflicts.error ⊥ (λ x. x) c.requires.well_formed f

pub returns-in-Err-Conflicts : goal.returns-in-Err-Conflicts
returns-in-Err-Conflicts c =
    let f = plain_conflicts c.args.grammar.now c.args.options.now c.requires.canonical c.args.start c.requires.whole c.in-Err-Conflicts.error (rw c.in-Err-Conflicts.field-0-is at c.in-Err-Conflicts.ensures.no_tables) in
    inr (record { error = c.in-Err-Conflicts.error; no_tables = f; ended = refl; shown = c.in_ok-explanation-in-Err-Conflicts.ensures })

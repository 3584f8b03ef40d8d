use Rattle.std.proofs.Common.{ap, inr}
use Rattle.lalrpop_construction.specs.declared.options.Options.{Options}
use Rattle.lalrpop_tables.proofs.theory.answers.NotCollapsed.{plain_conflicts}
use Rattle.lrshow_check.proofs.built.build.Goals as goal

pub returns-in-Err-Conflicts : goal.returns-in-Err-Conflicts
returns-in-Err-Conflicts c =
    let options : Options = record { method = c.args.method; stop_after = c.default.result.stop_after; max_copies = c.default.result.max_copies } in
    let whole = ap (λ (o : Options). o.stop_after) c.default.ensures in
    let no_tables = plain_conflicts c.args.grammar.now options c.requires.canonical c.args.start whole c.in-Err-Conflicts.error (rw c.in-Err-Conflicts.field-0-is at c.in-Err-Conflicts.ensures.no_tables) in
    let ended = c.failed.ensures.status in
    let of_states = rw c.in-Err-Conflicts.field-0-is at c.failed.ensures.states in
    let of_conflicts = rw c.in-Err-Conflicts.field-0-is at c.failed.ensures.conflicts in
    inr (record { error = c.in-Err-Conflicts.error; no_tables = no_tables; ended = ended; of_states = of_states; of_conflicts = of_conflicts })

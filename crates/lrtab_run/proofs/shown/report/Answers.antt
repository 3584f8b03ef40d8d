use Rattle.lrtab_run.proofs.ReportShown.{report_shown}
use Rattle.lrtab_run.proofs.shown.report.Goals as goal

pub returns-in-Ok : goal.returns-in-Ok
returns-in-Ok c =
    let e = c.build_states-outcome.ensures in
    report_shown c.args.options.now c.args.grammar.now c.args.start c.requires.canonical c.requires.whole c.build_states-outcome.result e.tables e.no_tables c.status_of-status.result c.in-Ok.text c.in-Ok.ensures.text c.status_of-status.ensures

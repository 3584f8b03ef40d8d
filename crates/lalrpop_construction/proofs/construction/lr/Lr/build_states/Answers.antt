use Rattle.std.proofs.lemmas.Result.{IfOk-weaker, IfErr-weaker}
use Rattle.lalrpop_construction.proofs.theory.early_stop.MadeUntil.{made_tables, made_failure, made_stopped}
use Rattle.lalrpop_construction.proofs.construction.lr.Lr.build_states.Goals as goal

pub returns-clause-tables : goal.returns-clause-tables
returns-clause-tables g c =
    IfOk-weaker c.tables_or_conflicts.result _ _ (λ tables t. made_tables g.L.Lookahead.meaning g.L.LookaheadBuild.begins g.L.LookaheadBuild.passes g.L.Lookahead.lists_conflicts c.args.self c.in_ok-states.states.items c.in_ok-states.conflicts.items c.in_ok-states.ensures tables.items t.0 t.1) c.tables_or_conflicts.ensures.ok

pub returns-clause-failure : goal.returns-clause-failure
returns-clause-failure g c = λ z.
    IfErr-weaker c.tables_or_conflicts.result _ _ (made_failure g.L.Lookahead.meaning g.L.LookaheadBuild.begins g.L.LookaheadBuild.passes g.L.Lookahead.lists_conflicts c.args.self c.in_ok-states.states.items c.in_ok-states.conflicts.items c.in_ok-states.ensures z) c.tables_or_conflicts.ensures.failure

pub returns-clause-stopped : goal.returns-clause-stopped
returns-clause-stopped g c =
    IfErr-weaker c.tables_or_conflicts.result _ _ (made_stopped g.L.Lookahead.meaning g.L.LookaheadBuild.begins g.L.LookaheadBuild.passes g.L.Lookahead.lists_conflicts c.args.self c.in_ok-states.states.items c.in_ok-states.conflicts.items c.in_ok-states.ensures) c.tables_or_conflicts.ensures.failure

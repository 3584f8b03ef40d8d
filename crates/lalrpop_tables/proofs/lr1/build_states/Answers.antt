use Rattle.lalrpop_tables.specs.Words.{Collapses}
use Rattle.lalrpop_tables.proofs.theory.answers.Lr1Answers.{Answer-renumbered}
use Rattle.lalrpop_tables.proofs.lr1.build_states.Goals as goal

pub returns-clause-tables : goal.returns-clause-tables
returns-clause-tables c =
    let g = c.args.grammar.now in
    Answer-renumbered (Collapses g c.args.options.now) c.args.options.now.method c.args.options.now.max_copies g c.args.start c.in_ok-states.states.items c.in_ok-tables.tables.items (c.in_ok-tables.ensures g.terminals) c.in_ok-states.ensures.tables

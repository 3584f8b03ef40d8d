use Rattle.lalrpop_tables.proofs.theory.answers.Lr1Answers.{Answer-renumbered}
use Rattle.lalrpop_tables.proofs.lr1.build_states_or_count.Goals as goal

pub returns-in_ok-renumber-in-Tables : goal.returns-in_ok-renumber-in-Tables
returns-in_ok-renumber-in-Tables c =
    let g = c.args.grammar.now in
    let built = rw c.in-Tables.is at c.in_ok-answer.ensures.answer in
    record
    { answer = Answer-renumbered ⊥ c.args.options.now.method c.args.options.now.max_copies g c.args.start c.in-Tables.states.items c.in_ok-renumber-in-Tables.field-0.items (c.in_ok-renumber-in-Tables.ensures g.terminals) built }

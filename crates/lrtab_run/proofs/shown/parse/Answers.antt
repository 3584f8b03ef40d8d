use Rattle.lalrpop_lr1.proofs.theory.runs.ByTables.{made_states, are_coherent, are_some, are_faithful}
use Rattle.lrtab_run.proofs.RunShown.{IsPromised, parse_shown}
use Rattle.lrtab_run.proofs.shown.parse.Goals as goal

pub parse_by_tables-answer-requires-clause-coherent : goal.parse_by_tables-answer-requires-clause-coherent
parse_by_tables-answer-requires-clause-coherent c = are_coherent ⊥ c.args.options.now.method c.args.options.now.max_copies c.args.grammar.now c.args.start c.in_ok-name.name c.in_ok-name.ensures c.in-Tables.states.items c.deref.result.now c.deref.ensures.value (rw c.in-Tables.is at c.in_ok-states.ensures.answer)

pub parse_by_tables-answer-requires-clause-some : goal.parse_by_tables-answer-requires-clause-some
parse_by_tables-answer-requires-clause-some c = are_some ⊥ c.args.options.now.method c.args.options.now.max_copies c.args.grammar.now c.args.start c.in_ok-name.name c.in_ok-name.ensures c.in-Tables.states.items c.deref.result.now c.deref.ensures.value (rw c.in-Tables.is at c.in_ok-states.ensures.answer)

pub parse_by_tables-answer-requires-clause-faithful : goal.parse_by_tables-answer-requires-clause-faithful
parse_by_tables-answer-requires-clause-faithful c = are_faithful ⊥ c.args.options.now.method c.args.options.now.max_copies c.args.grammar.now c.args.start c.in_ok-name.name c.in_ok-name.ensures c.in-Tables.states.items c.deref.result.now c.deref.ensures.value (rw c.in-Tables.is at c.in_ok-states.ensures.answer)

pub returns-in-Tables : goal.returns-in-Tables
returns-in-Tables c =
    let g = c.args.grammar.now in
    let options = c.args.options.now in
    let name = c.in_ok-name.name in
    let tokens = c.in_ok-tokens.tokens.items in
    let states = c.deref.result.now in
    let e = c.parse_by_tables-answer.ensures in
    let h : IsPromised g name tokens c.args.limit states c.parse_by_tables-answer.result =
    record { parses = e.parses; refuses = e.refuses; cut_off = e.limit; one_tree = e.one_tree; run = e.run; of_list = e.of_list; within = e.within } in
    parse_shown options.method options.max_copies g c.args.start name c.in_ok-name.ensures tokens c.args.limit states (made_states ⊥ c.args.options.now.method c.args.options.now.max_copies c.args.grammar.now c.args.start c.in_ok-name.name c.in_ok-name.ensures c.in-Tables.states.items c.deref.result.now c.deref.ensures.value (rw c.in-Tables.is at c.in_ok-states.ensures.answer)) _ c.in_ok-tokens.ensures c.parse_by_tables-answer.result c.text_of_answer.result h c.text_of_answer.ensures

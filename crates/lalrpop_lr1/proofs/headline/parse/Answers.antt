use Rattle.lalrpop_tables.specs.Words.{Collapses}
use Rattle.lalrpop_lr1.proofs.theory.runs.ByTables.{are_coherent, are_some, are_faithful}
use Rattle.lalrpop_lr1.proofs.theory.runs.OutcomeByTables.{decided, parsed, refused, limited, trees_told, run_told}
use Rattle.lalrpop_lr1.proofs.headline.parse.Goals as goal

pub parse_by_tables-requires-clause-coherent : goal.parse_by_tables-requires-clause-coherent
parse_by_tables-requires-clause-coherent c = are_coherent (Collapses c.args.grammar.now c.args.options.now) c.args.options.now.method c.args.options.now.max_copies c.args.grammar.now c.args.start c.in-Ok.name c.in-Ok.ensures c.in-Ok-build_states.states.items c.deref.result.now c.deref.ensures.value c.in-Ok-build_states.ensures.tables

pub parse_by_tables-requires-clause-some : goal.parse_by_tables-requires-clause-some
parse_by_tables-requires-clause-some c = are_some (Collapses c.args.grammar.now c.args.options.now) c.args.options.now.method c.args.options.now.max_copies c.args.grammar.now c.args.start c.in-Ok.name c.in-Ok.ensures c.in-Ok-build_states.states.items c.deref.result.now c.deref.ensures.value c.in-Ok-build_states.ensures.tables

pub parse_by_tables-requires-clause-faithful : goal.parse_by_tables-requires-clause-faithful
parse_by_tables-requires-clause-faithful c = are_faithful (Collapses c.args.grammar.now c.args.options.now) c.args.options.now.method c.args.options.now.max_copies c.args.grammar.now c.args.start c.in-Ok.name c.in-Ok.ensures c.in-Ok-build_states.states.items c.deref.result.now c.deref.ensures.value c.in-Ok-build_states.ensures.tables

pub returns-in-Ok-build_states-clause-decides : goal.returns-in-Ok-build_states-clause-decides
returns-in-Ok-build_states-clause-decides c = decided c.args.grammar.now c.args.options.now c.args.start c.in-Ok.name c.in-Ok.ensures c.in-Ok-build_states.states.items c.deref.result.now c.deref.ensures.value c.in-Ok-build_states.ensures.tables c.args.tokens.items c.args.limit c.parse_by_tables.result c.parse_result.result c.parse_result.ensures

pub returns-in-Ok-build_states-clause-parses : goal.returns-in-Ok-build_states-clause-parses
returns-in-Ok-build_states-clause-parses c = parsed c.args.grammar.now c.args.options.now c.args.start c.in-Ok.name c.in-Ok.ensures c.in-Ok-build_states.states.items c.deref.result.now c.deref.ensures.value c.in-Ok-build_states.ensures.tables c.args.tokens.items c.args.limit c.parse_by_tables.result c.parse_result.result c.parse_result.ensures c.parse_by_tables.ensures.parses

pub returns-in-Ok-build_states-clause-refuses : goal.returns-in-Ok-build_states-clause-refuses
returns-in-Ok-build_states-clause-refuses c = refused c.args.grammar.now c.args.options.now c.args.start c.in-Ok.name c.in-Ok.ensures c.in-Ok-build_states.states.items c.deref.result.now c.deref.ensures.value c.in-Ok-build_states.ensures.tables c.args.tokens.items c.args.limit c.parse_by_tables.result c.parse_result.result c.parse_result.ensures c.parse_by_tables.ensures.refuses

pub returns-in-Ok-build_states-clause-limit : goal.returns-in-Ok-build_states-clause-limit
returns-in-Ok-build_states-clause-limit c = limited c.args.grammar.now c.args.options.now c.args.start c.in-Ok.name c.in-Ok.ensures c.in-Ok-build_states.states.items c.deref.result.now c.deref.ensures.value c.in-Ok-build_states.ensures.tables c.args.tokens.items c.args.limit c.parse_by_tables.result c.parse_result.result c.parse_result.ensures c.parse_by_tables.ensures.limit

pub returns-in-Ok-build_states-clause-one_tree : goal.returns-in-Ok-build_states-clause-one_tree
returns-in-Ok-build_states-clause-one_tree c = trees_told c.args.grammar.now c.args.options.now c.args.start c.in-Ok.name c.in-Ok.ensures c.in-Ok-build_states.states.items c.deref.result.now c.deref.ensures.value c.in-Ok-build_states.ensures.tables c.args.tokens.items c.args.limit c.parse_by_tables.result c.parse_result.result c.parse_result.ensures c.parse_by_tables.ensures.one_tree

pub returns-in-Ok-build_states-clause-run : goal.returns-in-Ok-build_states-clause-run
returns-in-Ok-build_states-clause-run c had = run_told c.args.grammar.now c.args.options.now c.args.start c.in-Ok.name c.in-Ok.ensures c.in-Ok-build_states.states.items c.deref.result.now c.deref.ensures.value c.in-Ok-build_states.ensures.tables c.args.tokens.items c.args.limit c.parse_by_tables.result c.parse_result.result c.parse_result.ensures c.parse_by_tables.ensures.run c.parse_by_tables.ensures.of_list c.parse_by_tables.ensures.within c.parse_by_tables.ensures.limit

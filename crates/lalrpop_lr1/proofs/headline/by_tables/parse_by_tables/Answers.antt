use Rattle.lalrpop_base.specs.Words.{contents, productions}
use Rattle.lalrpop_lr1.proofs.theory.runs.ByTables.{parsed_by, refused_by}
use Rattle.lalrpop_lr1.proofs.headline.by_tables.parse_by_tables.Goals as goal

pub returns-clause-parses : goal.returns-clause-parses
returns-clause-parses c = parsed_by (productions c.args.grammar.now) c.args.start.now (contents c.args.grammar.now.terminals c.args.states.now) c.requires.faithful c.args.states.now c.args.tokens.items c.args.limit c.interpret.result c.interpret.ensures.parsed

pub returns-clause-refuses : goal.returns-clause-refuses
returns-clause-refuses c = refused_by (productions c.args.grammar.now) c.args.start.now (contents c.args.grammar.now.terminals c.args.states.now) c.requires.faithful c.args.states.now c.args.tokens.items c.interpret.result c.interpret.ensures.refused

pub returns-clause-one_tree : goal.returns-clause-one_tree
returns-clause-one_tree c alone = c.interpret.ensures.parses (productions c.args.grammar.now) c.args.start.now c.requires.faithful alone

use Rattle.lalrpop_base.specs.Words.{contents_in}
use Rattle.lalrpop_parser.proofs.theory.runs.FaithfulAnswers.{trees_are_one, limit_cut_off, cut_off_limit, tree_parses, answers_trees, refusal_wrong, refusal_prompt, steps_are_right, has_enough}
use Rattle.lalrpop_parser.proofs.theory.runs.Interpreted.{answer_at, tree_of_productions, tree_of_list, tree_steps, tree_within}
use Rattle.lalrpop_parser.proofs.interpret.interpret.Goals as goal

pub returns-clause-outcome : goal.returns-clause-outcome
returns-clause-outcome g c = answer_at (contents_in (g.L.LookaheadInterpret.holds c.args.terminals.now) c.args.states.now) c.args.states.now c.args.tokens.items c.new.result.left c.args.limit c.new.ensures.left c.run.result c.run.ensures

pub returns-clause-of_productions : goal.returns-clause-of_productions
returns-clause-of_productions g c = tree_of_productions (g.L.LookaheadInterpret.holds c.args.terminals.now) c.args.states.now c.requires.coherent c.args.tokens.items c.args.limit c.run.result (returns-clause-outcome g c)

pub returns-clause-of_list : goal.returns-clause-of_list
returns-clause-of_list g c = tree_of_list (g.L.LookaheadInterpret.holds c.args.terminals.now) c.args.states.now c.requires.coherent c.args.tokens.items c.args.limit c.run.result (returns-clause-outcome g c)

pub returns-clause-steps : goal.returns-clause-steps
returns-clause-steps g c = tree_steps (g.L.LookaheadInterpret.holds c.args.terminals.now) c.args.states.now c.requires.coherent c.args.tokens.items c.args.limit c.run.result (returns-clause-outcome g c)

pub returns-clause-within : goal.returns-clause-within
returns-clause-within g c = tree_within (g.L.LookaheadInterpret.holds c.args.terminals.now) c.args.states.now c.requires.coherent c.args.tokens.items c.args.limit c.run.result (returns-clause-outcome g c)

pub returns-clause-limit : goal.returns-clause-limit
returns-clause-limit g c = limit_cut_off (contents_in (g.L.LookaheadInterpret.holds c.args.terminals.now) c.args.states.now) c.args.states.now c.args.tokens.items c.args.limit c.run.result (returns-clause-outcome g c)

pub returns-clause-cut_off : goal.returns-clause-cut_off
returns-clause-cut_off g c = cut_off_limit (contents_in (g.L.LookaheadInterpret.holds c.args.terminals.now) c.args.states.now) c.args.states.now c.args.tokens.items c.args.limit c.run.result (returns-clause-outcome g c)

pub returns-clause-parsed : goal.returns-clause-parsed
returns-clause-parsed g c = tree_parses (contents_in (g.L.LookaheadInterpret.holds c.args.terminals.now) c.args.states.now) c.args.states.now c.args.tokens.items c.args.limit c.run.result (returns-clause-outcome g c)

pub returns-clause-parses : goal.returns-clause-parses
returns-clause-parses g c = answers_trees (contents_in (g.L.LookaheadInterpret.holds c.args.terminals.now) c.args.states.now) c.args.states.now c.args.tokens.items c.args.limit c.run.result (returns-clause-outcome g c)

pub returns-clause-refused : goal.returns-clause-refused
returns-clause-refused g c = refusal_wrong (contents_in (g.L.LookaheadInterpret.holds c.args.terminals.now) c.args.states.now) c.args.states.now c.args.tokens.items c.args.limit c.run.result (returns-clause-outcome g c)

pub returns-clause-prompt : goal.returns-clause-prompt
returns-clause-prompt g c = refusal_prompt (contents_in (g.L.LookaheadInterpret.holds c.args.terminals.now) c.args.states.now) c.args.states.now c.args.tokens.items c.args.limit c.run.result (returns-clause-outcome g c)

pub returns-clause-one_tree : goal.returns-clause-one_tree
returns-clause-one_tree g c = trees_are_one (contents_in (g.L.LookaheadInterpret.holds c.args.terminals.now) c.args.states.now) c.args.tokens.items

pub returns-clause-right : goal.returns-clause-right
returns-clause-right g c = steps_are_right (contents_in (g.L.LookaheadInterpret.holds c.args.terminals.now) c.args.states.now) c.args.tokens.items

pub returns-clause-ends : goal.returns-clause-ends
returns-clause-ends g c = has_enough (contents_in (g.L.LookaheadInterpret.holds c.args.terminals.now) c.args.states.now) c.args.tokens.items

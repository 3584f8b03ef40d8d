use Rattle.lalrpop_explain.proofs.theory.explained.TracedExamples.{graph_examples, no_examples}
use Rattle.lalrpop_explain.proofs.explain.examples.meeting_examples.Goals as goal

pub returns : goal.returns
returns c = λ state is.
    let context = c.args.context.now in
    let walk = c.in_ok-walk in
    graph_examples context.first_sets.now context.states.now state c.args.item.now c.args.most c.args.one.now.graph walk.walk c.in_ok-examples.examples.items is walk.ensures.graph walk.ensures.first_sets walk.ensures.lookahead walk.ensures.paths c.in_ok-examples.ensures

pub returns-then-not-one : goal.returns-then-not-one
returns-then-not-one c = λ state is.
    let context = c.args.context.now in
    no_examples context.first_sets.now context.states.now state c.args.item.now c.args.most c.args.one.now.graph _ is (c.requires.paths (c.if-not-one.true)) c.new.ensures.items

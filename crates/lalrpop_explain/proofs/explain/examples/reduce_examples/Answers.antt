use Rattle.std.proofs.lemmas.Result.{IfOk-weaker}
use Rattle.lalrpop_explain.proofs.explain.examples.reduce_examples.Goals as goal

pub meeting_examples-requires-clause-known : goal.meeting_examples-requires-clause-known
meeting_examples-requires-clause-known c =
    let context = c.args.context.now in
    (c.in-Some.ensures.found context.first_sets.now context.states.now c.requires.kept).known

pub meeting_examples-requires-clause-paths : goal.meeting_examples-requires-clause-paths
meeting_examples-requires-clause-paths c =
    let context = c.args.context.now in
    c.in-Some.ensures.paths context.first_sets.now context.states.now c.requires.kept

pub returns-in-Some-clause-examples : goal.returns-in-Some-clause-examples
returns-in-Some-clause-examples c =
    let context = c.args.context.now in
    IfOk-weaker c.meeting_examples.result _ _ (λ examples are. are c.args.state (c.in-Some.ensures.found context.first_sets.now context.states.now c.requires.kept)) c.meeting_examples.ensures

pub meeting_examples-requires-2-clause-known : goal.meeting_examples-requires-2-clause-known
meeting_examples-requires-2-clause-known c = c.in_ok-one.ensures.graph.known

pub returns-clause-examples : goal.returns-clause-examples
returns-clause-examples c = c.in_ok-examples.ensures c.args.state c.in_ok-one.ensures.graph

pub returns-clause-kept : goal.returns-clause-kept
returns-clause-kept c =
    let context = c.args.context.now in
    c.keep.ensures.kept context.first_sets.now context.states.now c.requires.kept c.in_ok-one.ensures.one

pub returns-in_err-keep-clause-kept : goal.returns-in_err-keep-clause-kept
returns-in_err-keep-clause-kept c =
    let context = c.args.context.now in
    c.keep.ensures.kept context.first_sets.now context.states.now c.requires.kept c.in_ok-one.ensures.one

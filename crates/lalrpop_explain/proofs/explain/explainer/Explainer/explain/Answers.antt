use Rattle.lalrpop_explain.proofs.explain.explainer.Explainer.explain.Goals as goal

pub explain_next-requires-clause-kept : goal.explain_next-requires-clause-kept
explain_next-requires-clause-kept c =
    let context = c.args.self.now.context in
    c.new-kept.ensures.none context.first_sets.now context.states.now

use Rattle.lalrpop_construction.proofs.construction.state.add_state.Goals as goal

pub next_state-requires-clause-made : goal.next_state-requires-clause-made
next_state-requires-clause-made g c = (c.args.states.now.items, c.requires.made)

pub returns-clause-more : goal.returns-clause-more
returns-clause-more g c = λ _. (c.in-Some.state, c.in_ok-push.ensures.items, rw c.in-Some.is at c.in_ok-state.ensures.by_number)

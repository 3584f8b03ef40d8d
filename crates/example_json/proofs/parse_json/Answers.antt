use Rattle.example_json.proofs.parse_json.Goals as goal

pub interpret-requires-clause-coherent : goal.interpret-requires-clause-coherent
interpret-requires-clause-coherent c = c.are_coherent.ensures.0 c.if-not-are_coherent.false

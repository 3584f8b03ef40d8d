use Rattle.example_tables.proofs.are_tables.Goals as goal

pub check_tables-requires-clause-coherent : goal.check_tables-requires-clause-coherent
check_tables-requires-clause-coherent c = c.are_coherent.ensures.0 c.if-not-are_coherent.false

use Rattle.grammar_diagnostics.proofs.cycle.is_nullable.Goals as goal

pub returns-in-Terminal : goal.returns-in-Terminal
returns-in-Terminal c = λ h. cc

use Rattle.grammar_text.proofs.WellFormed.{well_formed}
use Rattle.grammar_text.proofs.builder.GrammarBuilder.finish.Goals as goal

pub returns-in_ok-grammar_of-in-Ok-clause-well_formed : goal.returns-in_ok-grammar_of-in-Ok-clause-well_formed
returns-in_ok-grammar_of-in-Ok-clause-well_formed c =
    let lines = c.self.inside.lines.items in
    well_formed lines c.in_ok-grammar_of-in-Ok.field-0 (c.in_ok-grammar_of-in-Ok.ensures lines c.in-Ok.ensures.0)

use Rattle.grammar_text.specs.Lines.{lines_of}
use Rattle.grammar_text.proofs.WellFormed.{well_formed}
use Rattle.grammar_text.proofs.grammar.read.Goals as goal

pub returns-clause-well_formed : goal.returns-clause-well_formed
returns-clause-well_formed c =
    let lines = lines_of c.args.text.now in
    well_formed lines c.in_ok-grammar_of.field-0 (c.in_ok-grammar_of.ensures lines c.in_ok-collected.ensures.ok)

use Rattle.std.proofs.Common.{subst}
use Rattle.grammar_text.specs.Faults.{IsFaultOf}
use Rattle.grammar_text.specs.Lines.{lines_of}
use Rattle.grammar_text.specs.declared.read_error.ReadError.TheVariants.{Line}
use Rattle.lr1_calls.specs.Tables.{faulty_line}
use Rattle.lr1_calls.proofs.tables.outcome_of_text.Goals as goal

pub returns-in-Err-Line : goal.returns-in-Err-Line
returns-in-Err-Line c =
    let fault : IsFaultOf (lines_of c.args.text.now) (Line c.in-Err-Line.field-0-0) = subst (IsFaultOf (lines_of c.args.text.now)) c.in-Err-Line.field-0-is c.in-Err-Line.ensures.err in
    faulty_line c.in-Err-Line.field-0-0 c.utf8.text fault

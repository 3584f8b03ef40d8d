use Rattle.file_parts.proofs.Loops.{one_more}
use Rattle.parser_in_python.specs.Tables.{literal_line}
use Rattle.parser_in_python.proofs.tables.push_literals.Goals as goal

pub loop-literal-preserved : goal.loop-literal-preserved
loop-literal-preserved c = one_more literal_line c.args.literals.now c.loop-literal.literal-index c.literal-item.result _ _ _ c.loop-literal-test.true c.literal-item.is c.loop-literal.invariant c.in_ok-push_literal.ensures

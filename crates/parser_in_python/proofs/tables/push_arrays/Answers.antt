use Rattle.file_parts.proofs.Loops.{one_more}
use Rattle.parser_in_python.specs.Tables.{array_text}
use Rattle.parser_in_python.proofs.tables.push_arrays.Goals as goal

pub loop-array-preserved : goal.loop-array-preserved
loop-array-preserved c = one_more array_text c.args.arrays.now c.loop-array.array-index c.array-item.result _ _ _ c.loop-array-test.true c.array-item.is c.loop-array.invariant c.in_ok-push_array.ensures

use Rattle.file_parts.proofs.Loops.{one_more}
use Rattle.parser_in_c.specs.Arrays.{array_type}
use Rattle.parser_in_c.proofs.arrays.push_types.Goals as goal

pub loop-array-preserved : goal.loop-array-preserved
loop-array-preserved c = one_more array_type c.args.arrays.now c.loop-array.array-index c.array-item.result _ _ _ c.loop-array-test.true c.array-item.is c.loop-array.invariant c.in_ok-push_type.ensures

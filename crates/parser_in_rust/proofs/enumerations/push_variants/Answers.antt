use Rattle.file_parts.proofs.Loops.{one_more}
use Rattle.parser_in_rust.specs.Enumerations.{variant_lines}
use Rattle.parser_in_rust.proofs.enumerations.push_variants.Goals as goal

pub loop-constant-preserved : goal.loop-constant-preserved
loop-constant-preserved c = one_more variant_lines c.args.constants.now c.loop-constant.constant-index c.constant-item.result _ _ _ c.loop-constant-test.true c.constant-item.is c.loop-constant.invariant c.in_ok-push_variant.ensures

use Rattle.file_parts.proofs.Loops.{one_more}
use Rattle.symbol_texts.specs.Names.{long_name}
use Rattle.symbol_texts.proofs.names.push_long.Goals as goal

pub loop-production-preserved : goal.loop-production-preserved
loop-production-preserved c = one_more (long_name c.args.style) c.args.productions.now c.loop-production.production-index c.production-item.result _ _ _ c.loop-production-test.true c.production-item.is c.loop-production.invariant c.in_ok-push_if_long.ensures

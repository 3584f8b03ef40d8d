use Rattle.std.proofs.Common.{arith}
use Rattle.lalrpop_inline.proofs.theory.inlining.InlineMarks.{set_more}
use Rattle.lalrpop_inline.proofs.inline.graph.set_of.Goals as goal

pub loop-name-preserved : goal.loop-name-preserved
loop-name-preserved c = set_more c.args.names.now c.loop-name.name-index c.name-item.result c.in_ok-clone.field-0 c.loop-name.set c.insert.new.self (omega arith) c.name-item.is c.in_ok-clone.ensures c.in_ok-insert.ensures.updates.0 c.loop-name.invariant

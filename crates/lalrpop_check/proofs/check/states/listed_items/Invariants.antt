use Rattle.std.proofs.Common.{take}
use Rattle.lalrpop_base.specs.Words.{Lists}
use Rattle.lalrpop_check.proofs.check.states.listed_items.Given as goal

abbrev pub invariant-loop-item : goal.invariant-loop-item
invariant-loop-item l = Lists (take l.item-index l.items) l.listed.keys

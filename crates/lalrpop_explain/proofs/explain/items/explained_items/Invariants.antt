use Rattle.std.proofs.Common.{take}
use Rattle.lalrpop_explain.specs.Words.{AreExplainedShifts}
use Rattle.lalrpop_explain.proofs.explain.items.explained_items.Given as goal

-- the items so far are explained
abbrev pub invariant-loop-item : goal.invariant-loop-item
invariant-loop-item l = AreExplainedShifts l.context.first_sets.now l.context.states.now l.most l.state l.terminal (take l.item-index l.items) l.list.items

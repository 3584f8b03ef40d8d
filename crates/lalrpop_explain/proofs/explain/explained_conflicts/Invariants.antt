use Rattle.std.proofs.Common.{take}
use Rattle.lalrpop_explain.specs.Words.{AreExplained, AreKept}
use Rattle.lalrpop_explain.proofs.explain.explained_conflicts.Given as goal

-- the conflicts so far are explained
abbrev pub invariant-loop-conflict : goal.invariant-loop-conflict
invariant-loop-conflict l = record {
  explained : AreExplained l.explainer.context.first_sets.now l.explainer.context.states.now l.most (take l.conflict-index l.conflicts) l.list.items;
  kept : AreKept l.explainer.context.first_sets.now l.explainer.context.states.now l.kept;
}

use Rattle.std.proofs.Common.{string_bytes}
use Rattle.lalrpop_lr1.specs.Words.{AreKept}
use Rattle.lrtab_run.specs.Explained.{IsConflictPart}
use Rattle.lrtab_run.proofs.ExplainedParts.{AreDone}
use Rattle.lrtab_run.proofs.explain.push_conflicts.Given as goal

abbrev pub invariant-loop-place : goal.invariant-loop-place
invariant-loop-place l = record {
  done : AreDone (IsConflictPart l.explainer.context.first_sets.now l.explainer.context.states.now) 1 l.conflicts l.place (string_bytes l.fn.text) (string_bytes l.text);
  kept : AreKept l.explainer.context.first_sets.now l.explainer.context.states.now l.kept;
}

use Rattle.std.proofs.Common.{◌∙◌, List, subst, sym}
use Rattle.std.specs.Prelude.{Contains}
use Rattle.lalrpop_base.specs.Words.{Bits, Rules}
use Rattle.lalrpop_lr1.specs.Words.{IsOwnConflict}
use Rattle.lalrpop_states.specs.declared.lr1_core.state.Conflict.{Conflict}
use Rattle.lrtab_run.proofs.explain.explanation.Goals as goal

pub push_conflicts-requires-clause-conflicts : goal.push_conflicts-requires-clause-conflicts
push_conflicts-requires-clause-conflicts c = λ k i.
    subst (λ (r : Rules). IsOwnConflict r.productions k) (sym (c.in_ok-explainer.ensures.rules ∙ c.in_ok-first_sets.ensures.made)) (c.requires.own.conflicts k (subst (λ (xs : List (Conflict Bits)). Contains xs k) c.deref-2.ensures.value i))

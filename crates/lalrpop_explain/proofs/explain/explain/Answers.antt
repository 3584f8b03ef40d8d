use Rattle.std.proofs.Common.{◌∙◌, List, subst, sym}
use Rattle.std.specs.Prelude.{Contains}
use Rattle.lalrpop_base.specs.Words.{Bits, Rules}
use Rattle.lalrpop_explain.specs.Words.{IsOwnConflict}
use Rattle.lalrpop_explain.proofs.Types.{Conflict}
use Rattle.lalrpop_explain.proofs.explain.explain.Goals as goal

pub explained_conflicts-requires-clause-conflicts : goal.explained_conflicts-requires-clause-conflicts
explained_conflicts-requires-clause-conflicts c = λ k i.
    subst (λ (r : Rules). IsOwnConflict r.productions k) (sym (c.in_ok-explainer.ensures.rules ∙ c.in_ok-first_sets.ensures.made)) (c.requires.own.conflicts k (subst (λ (xs : List (Conflict Bits)). Contains xs k) c.deref-2.ensures.value i))

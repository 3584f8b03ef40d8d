use Rattle.std.proofs.Common.{◌≡◌, sym, subst, ◌∙◌, refl, List}
use Rattle.std.specs.Prelude.{Some, slice_get, Contains}
use Rattle.std.specs.Borrow.{Bor}
use Rattle.lalrpop_grammar.specs.declared.repr.NonterminalString.{NonterminalString}
use Rattle.grammar_diagnostics.specs.declared.cycle.Step.{Step}
use Rattle.grammar_diagnostics.specs.CyclePaths.{LeadsToEach, names_now}
use Rattle.grammar_diagnostics.proofs.cycle.unit_cycle.Goals as goal

pub path_to-requires-clause-leads : goal.path_to-requires-clause-leads
path_to-requires-clause-leads c =
    let a = c.args.name.now in
    c.in_ok-found.ensures a (subst (λ (names : List (Bor NonterminalString)). Contains (names_now names) a) c.as_slice-next.ensures.value (c.has_name.ensures c.if-has_name.true))

pub path_to-requires-clause-last : goal.path_to-requires-clause-last
path_to-requires-clause-last c = record {
  step = c.step_at-step.result;
  there = subst (λ (steps : List Step). slice_get steps c.loop-place.place ≡ Some c.step_at-step.result) (c.as_slice.ensures.value ∙ sym c.as_slice-then-has_name.ensures.value) c.step_at-step.ensures;
  named = refl;
}

pub add_steps-requires-clause-parent : goal.add_steps-requires-clause-parent
add_steps-requires-clause-parent c = record {
  step = c.step_at-step.result;
  there = subst (λ (steps : List Step). slice_get steps c.loop-place.place ≡ Some c.step_at-step.result) c.as_slice.ensures.value c.step_at-step.ensures;
  named = refl;
}

pub add_steps-requires-clause-leads : goal.add_steps-requires-clause-leads
add_steps-requires-clause-leads c = subst (λ (names : List (Bor NonterminalString)). LeadsToEach c.args.grammar.now c.step_at-step.result.name.now (names_now names)) (sym c.as_slice-next.ensures.value) c.in_ok-found.ensures

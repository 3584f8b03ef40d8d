use Rattle.std.proofs.Common.{◌≡◌, ◌∙◌, ◌+◌, ◌++◌, ◌∷◌, [], List, ap, subst, sym, take}
use Rattle.std.proofs.lemmas.List.{take_all, take_more}
use Rattle.lalrpop_base.specs.Words.{Bits}
use Rattle.lalrpop_explain.specs.Words.{AreExplained}
use Rattle.lalrpop_explain.specs.declared.explain.ExplainedConflict.{ExplainedConflict}
use Rattle.lalrpop_explain.specs.explained.ExplainedConflicts.{no_conflict}
use Rattle.lalrpop_explain.proofs.Types.{Conflict}
use Rattle.lalrpop_explain.proofs.theory.explained.ExplainedLists.{conflict_more}
use Rattle.lalrpop_explain.proofs.explain.explained_conflicts.Goals as goal

pub loop-conflict-init : goal.loop-conflict-init
loop-conflict-init c =
    let context = c.args.explainer.now.context in
    record { explained = subst (λ (xs : List ExplainedConflict). AreExplained context.first_sets.now context.states.now c.args.most [] xs) (sym c.new-list.ensures.items) no_conflict; kept = c.new-kept.ensures.none context.first_sets.now context.states.now }

pub explain_next-requires-clause-conflict : goal.explain_next-requires-clause-conflict
explain_next-requires-clause-conflict c = c.requires.conflicts c.conflict-item.result (c.loop-conflict.conflict-index, c.loop-conflict-test.true, sym c.conflict-item.is)

pub loop-conflict-preserved : goal.loop-conflict-preserved
loop-conflict-preserved c =
    let context = c.args.explainer.now.context in
    let conflicts : List (Conflict Bits) = c.args.conflicts.now in
    let i = c.loop-conflict.conflict-index in
    let conflict : Conflict Bits = c.conflict-item.result in
    let more : take (i + 1) conflicts ≡ take i conflicts ++ conflict ∷ [] = take_more conflicts i conflict c.loop-conflict-test.true ∙ ap (λ (x : Conflict Bits). take i conflicts ++ x ∷ []) (sym c.conflict-item.is) in
    let explained = subst (λ (cs : List (Conflict Bits)). AreExplained context.first_sets.now context.states.now c.args.most cs c.push.new.self.items) (sym more)
    (subst (λ (xs : List ExplainedConflict). AreExplained context.first_sets.now context.states.now c.args.most (take i conflicts ++ conflict ∷ []) xs) (sym c.in_ok-push.ensures.items)
    (conflict_more context.first_sets.now context.states.now c.args.most (take i conflicts) c.loop-conflict.list.items conflict c.in_ok-explain_next.field-0 c.loop-conflict.invariant.explained c.in_ok-explain_next.ensures.explained)) in
    record { explained = explained; kept = c.in_ok-explain_next.ensures.kept }

pub returns : goal.returns
returns c =
    let context = c.args.explainer.now.context in
    subst (λ (cs : List (Conflict Bits)). AreExplained context.first_sets.now context.states.now c.args.most cs c.loop-conflict.list.items) (take_all c.loop-conflict.conflict-index c.args.conflicts.now c.loop-conflict-test.false) c.loop-conflict.invariant.explained

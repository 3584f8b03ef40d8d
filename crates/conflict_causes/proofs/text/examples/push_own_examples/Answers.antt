use Rattle.std.proofs.Common.{◌∙◌, [], refl, string_bytes, subst, sym}
use Rattle.std.proofs.lemmas.Bool.{false≢true}
use Rattle.std.proofs.lemmas.List.{append-nil}
use Rattle.lalrpop_base.specs.Words.{Rules}
use Rattle.lalrpop_explain.specs.Words.{AreOwnStates, IsExplained, IsOwnConflict}
use Rattle.conflict_causes.specs.ExampleTexts.{examples, explained_text, foreign}
use Rattle.conflict_causes.proofs.text.examples.push_own_examples.Goals as goal

pub returns-then-not-examples : goal.returns-then-not-examples
returns-then-not-examples c =
    let given = c.args.examples.now in
    let states = given.explainer.now.context.states.now in
    record {
      added = [];
      holds = foreign (λ own. false≢true (sym c.if-not-examples.true ∙ c.requires.own.1 (subst (λ (r : Rules). AreOwnStates r states) (sym given.of_grammar) own.0))) refl;
      grown = sym (append-nil (string_bytes c.args.text.now));
    }

pub explain-requires-clause-conflict : goal.explain-requires-clause-conflict
explain-requires-clause-conflict c = subst (λ (r : Rules). IsOwnConflict r.productions c.args.conflict.now) (sym c.args.examples.now.of_grammar) (c.is_own_conflict.ensures.own.0 c.if-not-is_own_conflict.false)

pub returns : goal.returns
returns c =
    let given = c.args.examples.now in
    let states = given.explainer.now.context.states.now in
    let explained = c.in_ok-explained.explained in
    record {
      added = explained_text explained;
      holds = examples explained (subst (λ (r : Rules). IsExplained r states 1 c.args.conflict.now explained) given.of_grammar c.in_ok-explained.ensures.explained) refl;
      grown = c.in_ok-push_explained.ensures;
    }
